-- What is known of the rows of a table where none of them refuses.
-- Assumes nothing.
use Rattle.std.proofs.Common.{◌≡◌, ℕ, Bool, true, false, cond, List, [], ◌∷◌, Some, None, refl, ◌∙◌, arith}
use Rattle.std.specs.List.{AllByRecursion}
use Rattle.std.proofs.lemmas.Bool.{cond-false}
use Rattle.refusal.specs.Tables.{Row, first_refusal}

-- where there is no refusal, no row holds
pub no_row : {E : Type 0} (rows : List (Row E)) → first_refusal rows ≡ None → AllByRecursion (λ r. r.condition ≡ false) rows
no_row [] h = tt
no_row {E} (r ∷ rows) h = by r.condition refl h (λ k. no_row rows k)
  where
    by : (b : Bool) → r.condition ≡ b → cond b (Some r.refusal) (first_refusal rows) ≡ None → (first_refusal rows ≡ None → AllByRecursion (λ s. s.condition ≡ false) rows)
        → AllByRecursion (λ s. s.condition ≡ false) (r ∷ rows)
    by true e k later = let z : ◌≡◌ {A = ℕ} 0 1 = cc in absurd (omega arith)
    by false e k later = (e, later k)

-- and where no row holds, there is no refusal
pub no_refusal : {E : Type 0} (rows : List (Row E)) → AllByRecursion (λ r. r.condition ≡ false) rows → first_refusal rows ≡ None
no_refusal [] h = refl
no_refusal {E} (r ∷ rows) h = cond-false r.condition (Some r.refusal) (first_refusal rows) h.0 ∙ no_refusal rows h.1
