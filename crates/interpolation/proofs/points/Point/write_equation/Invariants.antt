use Rattle.interpolation.proofs.EquationSteps.{Written}
use Rattle.interpolation.proofs.points.Point.write_equation.Given as goal

abbrev pub invariant-loop-place : goal.invariant-loop-place
invariant-loop-place g l =
    Written (g.F.Field.meaning l.self.field.now) l.fn.terms.a l.fn.terms.d l.self.x l.self.y l.out l.place-index l.value l.first l.width l.left
