use Rattle.std.specs.Iterator.Adapters.{rev_source}
use Rattle.std.specs.Slice.Iter.{iter_rest}
use Rattle.bivariate.proofs.ValueSteps.{Taken}
use Rattle.bivariate.proofs.values.value_at.Given as goal

abbrev pub invariant-loop-coefficient : goal.invariant-loop-coefficient
invariant-loop-coefficient g l =
    (goal.iterator-loop-coefficient g).can_next l.coefficient-iterator
    × (goal.iterator-loop-coefficient g).is_finite l.coefficient-iterator
    × Taken (g.F.Field.meaning l.field) l.coefficients l.x (iter_rest (rev_source l.coefficient-iterator)) l.value
