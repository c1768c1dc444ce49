use Rattle.std.proofs.Common.{length, take}
use Rattle.bivariate.specs.Bivariate.{points_from}
use Rattle.interpolation.specs.Through.{Through}
use Rattle.interpolation.proofs.words.Word.impose.Given as goal

-- the points of the positions that were passed are imposed
abbrev pub invariant-loop-x : goal.invariant-loop-x
invariant-loop-x g l =
    Through (g.F.Field.meaning l.self.field.now) l.fn.terms.a l.fn.terms.d (length l.initial.equation) (points_from 0 (take l.x l.self.numbers.now)) l.vectors
