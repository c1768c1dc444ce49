use Rattle.std.proofs.Common.{◌≡◌, ◌+◌, ◌*◌, ◌≤◌, length}
use Rattle.bivariate.proofs.Degrees.{first_terms}
use Rattle.bivariate.proofs.terms.Terms.coefficient.Given as goal

-- the powers passed are all before the end
abbrev pub invariant-loop-power : goal.invariant-loop-power
invariant-loop-power l =
    (l.start ≡ first_terms l.self.a l.self.d l._power) × (l.width + l.self.a * l._power ≡ l.self.d) × (l.start ≤ length l.coefficients)
