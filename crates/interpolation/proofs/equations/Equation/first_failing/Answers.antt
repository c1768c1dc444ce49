use Rattle.std.proofs.Common.{◌≡◌, ℕ, ◌<◌, ◌∙◌, List, sym, ap, length, below_more, rules, arith}
use Rattle.std.specs.Iterator.Adapters.{enumerate_count}
use Rattle.interpolation.specs.Staircase.{dot, vector, Alive}
use Rattle.interpolation.proofs.Places.{ahead_turn}
use Rattle.interpolation.proofs.equations.Equation.first_failing.Goals as goal
use Rattle.interpolation.proofs.equations.Equation.first_failing.Goals.{else-vector-t-ne0-via-then-vector-t-ne0+else-value-ne0, else-vector-t-ne0-via-else-vector-t-ne0}

pub bounds-vector-t : goal.bounds-vector-t
bounds-vector-t g c =
    let turn = ahead_turn _ c.args.vectors.now c.requires.sized _ c.loop-t.invariant.2 _ c.in-Some.vector c.next.new.self c.in-Some.ensures.steps in
    omega (arith, turn.within, turn.long)

pub returns-then-value-ne0-clause-some : goal.returns-then-value-ne0-clause-some
returns-then-value-ne0-clause-some g c =
    let m = g.F.Field.meaning c.args.self.now.field.now in
    let turn = ahead_turn _ c.args.vectors.now c.requires.sized _ c.loop-t.invariant.2 _ c.in-Some.vector c.next.new.self c.in-Some.ensures.steps in
    record {
      within = turn.within;
      alive = λ e. c.if-vector-t-ne0.true (turn.own ∙ e);
      fails = λ e. c.if-value-ne0.true (c.value.ensures ∙ ap (dot m c.args.self.now.coefficients.now) turn.is ∙ e);
      before = λ s l. c.loop-t.invariant.3 s (omega (arith, c.in-Some.ensures.steps.1));
    }

pub loop-t-preserved : goal.loop-t-preserved
loop-t-preserved g c =
    let m = g.F.Field.meaning c.args.self.now.field.now in
    let e : List ℕ = c.args.self.now.coefficients.now in
    let vs : List ℕ = c.args.vectors.now in
    let t : ℕ = c.in-Some.t in
    let turn = ahead_turn (length e) vs c.requires.sized _ c.loop-t.invariant.2 _ c.in-Some.vector c.next.new.self c.in-Some.ensures.steps in
    let Solved : ℕ → Type 0 = λ s. Alive (length e) vs s → dot m e (vector (length e) vs s) ≡ 0 in
    let here : Solved t = elim c.else-vector-t-ne0.branch [
      | else-vector-t-ne0-via-then-vector-t-ne0+else-value-ne0 x ↦ (λ a. ap (dot m e) (sym turn.is) ∙ sym x.value.ensures ∙ x.if-value-ne0.false)
      | else-vector-t-ne0-via-else-vector-t-ne0 x ↦ (λ a. absurd (a (sym turn.own ∙ x.if-vector-t-ne0.false)))
    ] in
    let all : (s : ℕ) → s < enumerate_count c.next.new.self → Solved s =
    λ s l. below_more Solved t (λ k h. c.loop-t.invariant.3 k (omega (arith, c.in-Some.ensures.steps.1))) here s (omega (arith, turn.next)) in
    search rules
