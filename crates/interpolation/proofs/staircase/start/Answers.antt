use Rattle.std.proofs.Common.{◌≡◌, ℕ, ◌*◌, List, length, sym, ◌∙◌, subst, arith}
use Rattle.interpolation.proofs.UnitVectors.{Units, units_none, units_more, units_staircase, units_count}
use Rattle.interpolation.proofs.staircase.start.Goals as goal

pub loop-t-init : goal.loop-t-init
loop-t-init c =
    subst (λ (vs : List ℕ). Units c.args.w 0 vs) (sym (c.fill.ensures.after (λ y e. e))) (units_none c.args.w (length c.args.vectors.now))

pub loop-t-preserved : goal.loop-t-preserved
loop-t-preserved c =
    units_more c.args.w c.loop-t.t c.loop-t.vectors (c.loop-t.auto.vectors ∙ c.fill.ensures.len ∙ c.requires) c.loop-t-test.true c.loop-t.invariant

pub returns : goal.returns
returns c =
    let w : ℕ = c.args.w in
    let vs : List ℕ = c.loop-t.vectors in
    let sized : length vs ≡ w * w = c.loop-t.auto.vectors ∙ c.fill.ensures.len ∙ c.requires in
    let done : c.loop-t.t ≡ w = omega (arith, c.loop-t-test.false) in
    let units : Units w w vs = subst (λ (t : ℕ). Units w t vs) done c.loop-t.invariant in
    record {
      staircase = units_staircase w vs sized units;
      alive = units_count w vs w units.1;
    }
