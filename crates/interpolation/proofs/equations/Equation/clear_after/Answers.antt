use Rattle.std.proofs.Common.{◌≡◌, ℕ, ◌+◌, ◌-◌, ◌*◌, ◌<◌, List, length, take, drop, refl, sym, ap, ◌∙◌, subst, arith}
use Rattle.std.proofs.ByRecursion.{All-take, All-drop}
use Rattle.bivariate.specs.Bivariate.{Elements}
use Rattle.interpolation.proofs.Places.{part_elements}
use Rattle.interpolation.proofs.VectorSums.{value-element}
use Rattle.interpolation.proofs.ClearedVectors.{Clearing, clearing_elements, clearing_dead, clearing_apart, inverse_is, inverse-element}
use Rattle.interpolation.proofs.equations.Equation.clear_after.Goals as goal
use Rattle.interpolation.proofs.equations.Equation.clear_after.Goals.{then-vectors-t-ne0, else-vectors-t-ne0}

pub reciprocal-inverse-requires-clause-element : goal.reciprocal-inverse-requires-clause-element
reciprocal-inverse-requires-clause-element g c =
    let m = g.F.Field.meaning c.args.self.now.field.now in
    value-element m (g.met.F.Field.lawful c.args.self.now.field.now) c.args.self.now.coefficients.now c.vector.result.now _ c.value.ensures c.args.self.now.elements
    (part_elements _ c.args.vectors.now c.requires.sized m c.args.p _ c.vector.ensures c.requires.elements)

pub clear-requires-clause-other : goal.clear-requires-clause-other
clear-requires-clause-other g c =
    let m = g.F.Field.meaning c.args.self.now.field.now in
    let e : List ℕ = c.args.self.now.coefficients.now in
    let P : ℕ → Type 0 = λ x. x < m.size in
    let all : Elements m c.loop-t.vectors =
    clearing_elements m (g.met.F.Field.lawful c.args.self.now.field.now) e c.args.self.now.elements (length e) c.args.p c.args.vectors.now c.requires.sized c.requires.elements
    c.loop-t.t c.loop-t.vectors c.loop-t.auto.vectors c.loop-t.invariant in
    All-take P (c.args.p * length e + length e - c.args.p * length e) (drop (c.args.p * length e) c.split_at_mut-front.result.0.now)
    (All-drop P (c.args.p * length e) c.split_at_mut-front.result.0.now
    (subst (Elements m) (sym c.split_at_mut-front.ensures.front) (All-take P (c.loop-t.t * length e) c.loop-t.vectors all)))

pub clear-requires-clause-inverse : goal.clear-requires-clause-inverse
clear-requires-clause-inverse g c =
    let m = g.F.Field.meaning c.args.self.now.field.now in
    let laws = g.met.F.Field.lawful c.args.self.now.field.now in
    inverse-element m laws c.value.result _ c.reciprocal-inverse.ensures
    (value-element m laws c.args.self.now.coefficients.now c.vector.result.now _ c.value.ensures c.args.self.now.elements
    (part_elements _ c.args.vectors.now c.requires.sized m c.args.p _ c.vector.ensures c.requires.elements))

pub loop-t-preserved : goal.loop-t-preserved
loop-t-preserved g c =
    let m = g.F.Field.meaning c.args.self.now.field.now in
    let e : List ℕ = c.args.self.now.coefficients.now in
    let w : ℕ = length e in
    let p : ℕ = c.args.p in
    let l = c.loop-t in
    let behind : p < l.t = omega (arith, l.auto.t) in
    elim c.if-vectors-t-ne0.branch [
      | then-vectors-t-ne0 x ↦
          clearing_apart m w p e c.args.vectors.now l.t c.loop-t-test.true behind l.vectors l.invariant
          x.if-vectors-t-ne0.true c.reciprocal-inverse.result
          (inverse_is m e _ c.vector.result.now c.value.result c.vector.ensures c.value.ensures c.reciprocal-inverse.result c.reciprocal-inverse.ensures)
          (l.auto.vectors ∙ c.requires.sized)
          x.split_at_mut-front.result.0.now x.split_at_mut-front.result.1.now x.split_at_mut-front.ensures.front x.split_at_mut-front.ensures.back
          (take w x.split_at_mut-front.result.1.now) _ x.clear.new.vector refl
          (let at : p * w + w - p * w ≡ w = omega arith in ap (λ (n : ℕ). take n (drop (p * w) x.split_at_mut-front.result.0.now)) at)
          x.clear.auto.vector x.clear.ensures c.if-vectors-t-ne0.vectors x.vectors-is
      | else-vectors-t-ne0 x ↦ subst (Clearing m w p e c.args.vectors.now (l.t + 1)) (sym x.vectors-is)
          (clearing_dead m w p e c.args.vectors.now l.t c.loop-t-test.true behind l.vectors l.invariant x.if-vectors-t-ne0.false)
    ]
