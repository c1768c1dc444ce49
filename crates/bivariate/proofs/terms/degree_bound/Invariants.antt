use Rattle.std.proofs.Common.{◌≡◌, ℕ, ◌+◌, ◌-◌, ◌<◌, ◌≤◌}
use Rattle.bivariate.specs.Terms.{term_count}
use Rattle.bivariate.proofs.terms.degree_bound.Given as goal

abbrev pub invariant-loop-count : goal.invariant-loop-count
invariant-loop-count l = (l.count ≡ term_count l.a l.d) × ((e : ℕ) → e < l.d → term_count l.a e ≤ l.n)

abbrev pub decreases-loop-count : goal.decreases-loop-count
decreases-loop-count l = l.n + 1 - l.d
