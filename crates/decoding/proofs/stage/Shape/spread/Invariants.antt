use Rattle.std.proofs.Common.{◌*◌, ◌≤◌}
use Rattle.decoding.proofs.Grids.{SpreadFrom}
use Rattle.decoding.proofs.stage.Shape.spread.Given as goal

abbrev pub invariant-loop-k : goal.invariant-loop-k
invariant-loop-k l = (l.k ≤ l.self.d * l.self.w) × SpreadFrom l.self.w (l.self.d * l.self.w) l.initial.cells l.k l.cells
