use Rattle.interpolation.proofs.UnitVectors.{Units}
use Rattle.interpolation.proofs.staircase.start.Given as goal

abbrev pub invariant-loop-t : goal.invariant-loop-t
invariant-loop-t l = Units l.w l.t l.vectors
