-- A rule that antt computes, one number after the other, holds at each of them.
-- Assumes nothing.
use Rattle.std.specs.Prelude.{◌≡◌, ℕ, zero, suc, ◌<◌, Bool, true, ◌&&◌}
use Rattle.std.proofs.Common.{sym, subst, ⊎_elim, arith}
use Rattle.std.proofs.lemmas.Bool.{and_parts, cases_eq}

-- the test passes at each number below n
abbrev pub all_below : ℕ → (ℕ → Bool) → Bool
all_below zero test = true
all_below (suc n) test = test n && all_below n test

pub at_each : (n : ℕ) (test : ℕ → Bool) → all_below n test ≡ true → (k : ℕ) → k < n → test k ≡ true
at_each zero test all k h = absurd (omega arith)
at_each (suc n) test all k h =
    let parts = and_parts (test n) (all_below n test) all in
    ⊎_elim (λ e. subst (λ (i : ℕ). test i ≡ true) (sym e) parts.0) (λ d. at_each n test parts.1 k (omega arith)) (cases_eq k n)
