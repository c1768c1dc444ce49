use Rattle.std.proofs.Common.{◌≤◌, length, arith}
use Rattle.bivariate.specs.Terms.{term_count}
use Rattle.interpolation.proofs.EquationSteps.{written_left, written_within, written_next}
use Rattle.interpolation.proofs.points.Point.write_equation.Goals as goal
use Rattle.interpolation.proofs.points.Point.write_equation.Goals.{then-left-eq0, else-left-eq0}

pub overflow_sub-left : goal.overflow_sub-left
overflow_sub-left g c =
    let room : length c.loop-place.out ≤ term_count c.args.terms.a c.args.terms.d = omega (arith, c.requires) in
    written_left _ (g.met.F.Field.lawful c.args.self.now.field.now) _ _ _ _ c.args.self.now.place c.args.self.now.value c.args.terms.weight c.args.terms.degree
    _ room _ _ _ _ _ c.loop-place.invariant (omega arith)

pub loop-place-preserved : goal.loop-place-preserved
loop-place-preserved g c =
    let laws = g.met.F.Field.lawful c.args.self.now.field.now in
    let room : length c.loop-place.out ≤ term_count c.args.terms.a c.args.terms.d = omega (arith, c.requires) in
    elim c.if-left-eq0.branch [
      | then-left-eq0 w ↦
          written_next _ laws _ _ _ _ c.args.self.now.place c.args.self.now.value c.args.terms.weight c.args.terms.degree
          _ room _ _ _ _ _ c.loop-place.invariant (omega arith) _ _ _ _ _ _ w.if-left-eq0.true
          w.product-first.ensures w.saturating_sub-width.ensures w.value-is w.first-is w.width-is w.left-is
      | else-left-eq0 w ↦
          written_within _ laws _ _ _ _ c.args.self.now.place c.args.self.now.value c.args.terms.weight c.args.terms.degree
          _ room _ _ _ _ _ c.loop-place.invariant (omega arith) _ _ _ _ _ w.if-left-eq0.false
          w.product-value.ensures w.value-is w.first-is w.width-is w.left-is
    ]
