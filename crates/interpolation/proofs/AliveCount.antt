-- How many vectors are alive, from what their own numbers are.
-- Assumes nothing.
use Rattle.std.proofs.Common.{◌≡◌, ℕ, zero, suc, ◌+◌, ◌<◌, ◌≤◌, Bool, cond, eqb, not, Option, Some, None, ◌⊎◌, List, sym, refl, ap, ◌∙◌, ap₂, inl, inr, ⊎_elim, add-one, arith}
use native.Mathlib.Decide.{ℕ_discrete}
use Rattle.std.specs.List.{find, range_with_len}
use Rattle.std.proofs.lemmas.Option.{none-some}
use Rattle.std.proofs.lemmas.Bool.{cases_lt, cases_eq, eq-eqb, ne_eqb, cond-true, cond-false}
use Rattle.interpolation.specs.Staircase.{entry, alive_count}

pub one_more : (x : ℕ) → ¬ (x ≡ 0) → ◌≡◌ {A = ℕ} (cond (eqb x 0) 0 1) 1
one_more x n = cond-false {A = ℕ} (eqb x 0) 0 1 (ne_eqb x 0 n)

none_more : (x : ℕ) → x ≡ 0 → ◌≡◌ {A = ℕ} (cond (eqb x 0) 0 1) 0
none_more x e = cond-true {A = ℕ} (eqb x 0) 0 1 (eq-eqb x 0 e)

at_most_one : (x : ℕ) → cond (eqb x 0) 0 1 ≤ 1
at_most_one x = ⊎_elim (λ e. omega (arith, none_more x e)) (λ n. omega (arith, one_more x n)) (cases_eq x 0)

-- none is alive up to k, and k is not
pub count_none : (w : ℕ) (vs : List ℕ) (k next : ℕ) → next ≡ k + 1 → alive_count w vs k ≡ 0 → entry w vs k k ≡ 0 → alive_count w vs next ≡ 0
count_none w vs k next after h e = ap (alive_count w vs) (after ∙ add-one k) ∙ ap₂ ◌+◌ (none_more (entry w vs k k) e) h

-- ---- a search for the first that is alive

module _ (w : ℕ) (vs : List ℕ) where
  abbrev pub living : ℕ → Bool
  living t = not (eqb (entry w vs t t) 0)

  passed : (a n : ℕ) → find living (range_with_len a n) ≡ None → (t : ℕ) → a ≤ t → t < a + n → entry w vs t t ≡ 0
  passed a zero h t l r = absurd (omega arith)
  passed a (suc n) h t l r =
      let rest : Option ℕ = find living (range_with_len (a + 1) n) in
      elim (ℕ_discrete (entry w vs a a) 0) [
        | yes e ↦ elim (cases_lt a t) [
          | inl k ↦ passed (a + 1) n (sym (ap (λ (b : Bool). cond (not b) (Some a) rest) (eq-eqb _ _ e)) ∙ h) t (omega arith) (omega arith)
          | inr k ↦ (let s : t ≡ a = omega arith in ap (λ (i : ℕ). entry w vs i i) s ∙ e)
        ]
        | no ne ↦ absurd (none-some a (sym h ∙ ap (λ (b : Bool). cond (not b) (Some a) rest) (ne_eqb _ _ ne)))
      ]

  count_passed : (n : ℕ) → ((t : ℕ) → t < n → entry w vs t t ≡ 0) → alive_count w vs n ≡ 0
  count_passed zero h = refl
  count_passed (suc n) h = count_none w vs n (suc n) (omega arith) (count_passed n (λ t l. h t (omega arith))) (h n (omega arith))

  pub count_not_found : (n : ℕ) → find living (range_with_len 0 n) ≡ None → alive_count w vs n ≡ 0
  count_not_found n h = count_passed n (λ t l. passed 0 n h t (omega arith) (omega arith))

-- ---- vectors of which one may die

module _ (w : ℕ) (old vs : List ℕ) where
  count_same : (k : ℕ) → ((t : ℕ) → t < k → entry w vs t t ≡ entry w old t t) → alive_count w old k ≡ alive_count w vs k
  count_same zero h = refl
  count_same (suc k) h =
      ap₂ (λ (x n : ℕ). cond (eqb x 0) 0 1 + n) (sym (h k (omega arith))) (count_same k (λ t l. h t (omega arith)))

  pub count_less : (p k : ℕ) → ((t : ℕ) → t < k → ¬ (t ≡ p) → entry w vs t t ≡ entry w old t t)
      → alive_count w old k ≤ suc (alive_count w vs k)
  count_less p zero h = omega arith
  count_less p (suc k) h = by (count_less p k (λ t l. h t (omega arith))) (cases_eq k p)
    where
      by : alive_count w old k ≤ suc (alive_count w vs k) → (k ≡ p) ⊎ (k ≡ p → ⊥) → alive_count w old (suc k) ≤ suc (alive_count w vs (suc k))
      by l (inl e) =
          omega (arith, at_most_one (entry w old k k), count_same k (λ t z. h t (omega arith) (λ q. omega arith)))
      by l (inr n) =
          omega (arith, ap {B = ℕ} (λ (x : ℕ). cond (eqb x 0) 0 1) (h k (omega arith) n))
