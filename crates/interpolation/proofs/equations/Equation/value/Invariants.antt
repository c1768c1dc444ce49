use Rattle.std.specs.Iterator.Adapters.{zip_first, zip_second}
use Rattle.std.specs.Slice.Iter.{iter_rest}
use Rattle.interpolation.proofs.VectorSums.{Summed}
use Rattle.interpolation.proofs.equations.Equation.value.Given as goal

abbrev pub invariant-loop-coefficient : goal.invariant-loop-coefficient
invariant-loop-coefficient g l =
    (goal.iterator-loop-coefficient g).can_next l.coefficient-iterator
    × (goal.iterator-loop-coefficient g).is_finite l.coefficient-iterator
    × Summed (g.F.Field.meaning l.self.field.now) l.self.coefficients.now l.vector (iter_rest (zip_first l.coefficient-iterator)) (iter_rest (zip_second l.coefficient-iterator)) l.sum
