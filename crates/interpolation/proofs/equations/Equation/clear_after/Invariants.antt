use Rattle.std.proofs.Common.{length}
use Rattle.interpolation.proofs.ClearedVectors.{Clearing}
use Rattle.interpolation.proofs.equations.Equation.clear_after.Given as goal

abbrev pub invariant-loop-t : goal.invariant-loop-t
invariant-loop-t g l =
    Clearing (g.F.Field.meaning l.self.field.now) (length l.self.coefficients.now) l.p l.self.coefficients.now l.initial.vectors l.t l.vectors
