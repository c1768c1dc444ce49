use Rattle.std.proofs.Common.{arith, rules}
use Rattle.bivariate.proofs.Degrees.{passed_high, counted_high, count_more, passed_more, passed_least, passed_is}
use Rattle.bivariate.proofs.terms.degree_bound.Goals as goal

pub overflow_add-count : goal.overflow_add-count
overflow_add-count c =
    omega (arith, counted_high _ _ _ _ c.if-a-eq0.false c.loop-count.invariant.0 c.loop-count.invariant.1)

pub overflow_add-d : goal.overflow_add-d
overflow_add-d c =
    omega (arith, passed_high _ _ _ _ c.if-a-eq0.false c.loop-count.invariant.0 c.loop-count.invariant.1)

pub loop-count-preserved : goal.loop-count-preserved
loop-count-preserved c = (
  count_more _ _ _ _ c.if-a-eq0.false c.loop-count.invariant.0 c.loop-count.invariant.1,
  passed_more _ _ _ _ c.if-a-eq0.false c.loop-count.invariant.0 c.loop-count.invariant.1 c.loop-count-test.true,
)

pub returns : goal.returns
returns c = search (rules, passed_least, passed_is)
