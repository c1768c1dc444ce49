-- What the tests before the search, and the lay-out of its first stage, work out.
-- Assumes nothing.
use Rattle.std.proofs.Common.{◌≡◌, ℕ, ◌+◌, ◌*◌, ◌/◌, ◌%◌, ◌<◌, ◌≤◌, true, false, ◌&&◌, eqb, List, [], ◌∷◌, get_or, sym, refl, ◌∙◌, ap₂, arith}
use Rattle.std.proofs.lemmas.Nat.{mul-add-lt, div-mul-add, mod-mul-add}
use Rattle.std.proofs.lemmas.Bool.{eq-eqb, eqb-true, and_parts, true≢false, false_from_ne_true}
use Rattle.bivariate.specs.Bivariate.{Zeros, coefficient}
use Rattle.bivariate.specs.Grid.{cell}
use Rattle.decoding.specs.Decoding.{only_zeros}

-- ---- whether all are 0

pub zeros_true : (cs : List ℕ) → Zeros cs → only_zeros cs ≡ true
zeros_true [] h = refl
zeros_true (c ∷ cs) h = ap₂ ◌&&◌ (eq-eqb c 0 h.0) (zeros_true cs h.1)

pub not_zeros : (cs : List ℕ) → only_zeros cs ≡ false → ¬ (Zeros cs)
not_zeros cs e h = true≢false (sym (zeros_true cs h) ∙ e)

pub only_zeros_false : (cs : List ℕ) → ¬ (Zeros cs) → only_zeros cs ≡ false
only_zeros_false cs n = false_from_ne_true (only_zeros cs) (λ e. n (all cs e))
  where
    all : (l : List ℕ) → only_zeros l ≡ true → Zeros l
    all [] e = tt
    all (c ∷ l) e = let parts = and_parts (eqb c 0) (only_zeros l) e in (eqb-true c 0 parts.0, all l parts.1)

-- ---- the grid

pub laid_out : (w d n : ℕ) (Q : List (List ℕ)) (stage : List ℕ) → d * w ≤ n → ((t : ℕ) → t < n → get_or stage t 0 ≡ coefficient Q (t / w) (t % w))
    → (g j : ℕ) → g < d → j < w → cell w stage g j ≡ coefficient Q g j
laid_out w d n Q stage l h g j hg hj =
    h (g * w + j) (omega (arith, mul-add-lt g w j d hg hj)) ∙ ap₂ (coefficient Q) (div-mul-add g w j hj) (mod-mul-add g w j hj)
