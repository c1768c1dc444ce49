use Rattle.bivariate.specs.Grid.{grid}
use Rattle.decoding.proofs.Branches.{Standing}
use Rattle.decoding.proofs.stage.Stage.last.Given as goal

abbrev pub invariant-loop-c : goal.invariant-loop-c
invariant-loop-c g l =
    Standing (g.F.Field.meaning l.self.field.now) (grid l.self.shape.w l.self.shape.d l.self.cells.now) 1 l.initial.path l.initial.found l.c l.count l.path l.found
