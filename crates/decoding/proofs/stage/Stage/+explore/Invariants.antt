use Rattle.std.proofs.Common.{◌≡◌, ◌-◌, ◌*◌, ◌≤◌, length}
use Rattle.bivariate.specs.Grid.{grid}
use Rattle.decoding.proofs.Branches.{Standing}
use Rattle.decoding.proofs.stage.Stage.+explore.Given as goal

abbrev pub decreases-explore : goal.decreases-explore
decreases-explore g l = l.left

abbrev pub invariant-loop-c : goal.invariant-loop-c
invariant-loop-c g l =
    (length l.next ≡ length l.self.cells.now)
    × ((l.left - 2) * length l.self.cells.now ≤ length l.deeper)
    × Standing (g.F.Field.meaning l.self.field.now) (grid l.self.shape.w l.self.shape.d l.self.cells.now) l.left l.initial.path l.initial.found l.c l.count l.path l.found
