use Rattle.std.proofs.Common.{◌≡◌, ℕ, ◌/◌, ◌%◌, ◌<◌, length, get_or}
use Rattle.bivariate.specs.Bivariate.{coefficient}
use Rattle.bivariate.specs.Terms.{polynomial}
use Rattle.decoding.proofs.subject.Limits.lay_out.Given as goal

abbrev pub invariant-loop-k : goal.invariant-loop-k
invariant-loop-k l =
    (length l.cells ≡ length l.initial.cells)
    × ((t : ℕ) → t < l.k → get_or l.cells t 0 ≡ coefficient (polynomial l.self.terms.a l.self.terms.d l.coefficients) (t / l.w) (t % l.w))
