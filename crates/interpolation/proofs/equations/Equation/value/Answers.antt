use Rattle.std.proofs.Common.{rules, ⊎_elim}
use Rattle.interpolation.proofs.VectorSums.{summed_none, summed_more, summed_left, summed_right}
use Rattle.interpolation.proofs.equations.Equation.value.Goals as goal

pub loop-coefficient-init : goal.loop-coefficient-init
loop-coefficient-init g c = search (rules, summed_none _ (g.met.F.Field.lawful c.args.self.now.field.now))

pub loop-coefficient-preserved : goal.loop-coefficient-preserved
loop-coefficient-preserved g c = search (rules, summed_more _ (g.met.F.Field.lawful c.args.self.now.field.now))

pub returns : goal.returns
returns g c =
    ⊎_elim (λ h. summed_left _ (g.met.F.Field.lawful c.args.self.now.field.now) _ _ _ _ _ c.loop-coefficient.invariant.2 h.1.0)
    (λ h. summed_right _ (g.met.F.Field.lawful c.args.self.now.field.now) _ _ _ _ _ c.loop-coefficient.invariant.2 h.1.0) c.in-None.ensures.steps
