-- The inverse as the first element whose product is 1: where there is one, it is that and no other.
-- Assumes nothing.
use Rattle.std.specs.Prelude.{◌≡◌, ℕ, zero, suc, ◌+◌, ◌<◌, ◌≤◌, Bool, true, false, cond, nat_eq, refl}
use Rattle.std.proofs.Common.{sym, ap, ◌∙◌, subst, add-zero, add-suc, suc-add, arith}
use Rattle.std.proofs.lemmas.Bool.{both_ways, eqb-true, eq-eqb}
use Rattle.field.specs.Meaning.{first_from, reciprocal}

module _ (test : ℕ → Bool) where
  pub first_below : (n i size : ℕ) → i + n ≤ size → 0 < size → first_from test i n < size
  first_below zero i size h p = p
  first_below (suc n) i size h p = by (test i) (first_below n (suc i) size (omega arith) p)
    where
      by : (b : Bool) → first_from test (suc i) n < size → cond b i (first_from test (suc i) n) < size
      by true later = omega arith
      by false later = later

  pub first_passes : (n i k : ℕ) → k < n → test (i + k) ≡ true → test (first_from test i n) ≡ true
  first_passes zero i k h t = absurd (omega arith)
  first_passes (suc n) i k h t = by (test i) refl k h t (first_passes n (suc i))
    where
      by : (b : Bool) → test i ≡ b → (k : ℕ) → k < suc n → test (i + k) ≡ true
          → ((k : ℕ) → k < n → test (suc i + k) ≡ true → test (first_from test (suc i) n) ≡ true)
          → test (cond b i (first_from test (suc i) n)) ≡ true
      by true e k h t later = e
      by false e zero h t later = absurd (both_ways (test i) e (subst (λ (j : ℕ). test j ≡ true) (add-zero i) t))
      by false e (suc k) h t later =
          later k (omega arith) (subst (λ (j : ℕ). test j ≡ true) (add-suc i k ∙ sym (suc-add i k)) t)

module _ (size : ℕ) (product : ℕ → ℕ → ℕ) where
  pub reciprocal_below : (a : ℕ) → 0 < size → reciprocal size product a < size
  unfolding reciprocal
  reciprocal_below a p = first_below (λ b. nat_eq (product a b) 1) size 0 size (omega arith) p

  pub reciprocal_right : (a x : ℕ) → x < size → product a x ≡ 1 → product a (reciprocal size product a) ≡ 1
  unfolding reciprocal
  reciprocal_right a x h e =
      eqb-true _ 1 (first_passes (λ b. nat_eq (product a b) 1) size 0 x h (eq-eqb (product a (0 + x)) 1 (ap (product a) (omega arith) ∙ e)))

  -- where products are associative and commutative, and 1 is neutral, nothing else is an inverse
  module _ (assoc : (a b c : ℕ) → a < size → b < size → c < size → product (product a b) c ≡ product a (product b c))
      (comm : (a b : ℕ) → a < size → b < size → product a b ≡ product b a)
      (one : (a : ℕ) → a < size → product a 1 ≡ a) (some : 1 < size) where
    pub inverse_unique : (a x y : ℕ) → a < size → x < size → y < size → product a x ≡ 1 → product a y ≡ 1 → x ≡ y
    inverse_unique a x y ha hx hy e f =
        sym (one x hx) ∙ ap (product x) (sym f) ∙ sym (assoc x a y hx ha hy) ∙ ap (λ (z : ℕ). product z y) (comm x a hx ha ∙ e)
        ∙ comm 1 y some hy ∙ one y hy

    pub reciprocal_is : (a x : ℕ) → a < size → x < size → product a x ≡ 1 → x ≡ reciprocal size product a
    reciprocal_is a x ha hx e =
        inverse_unique a x (reciprocal size product a) ha hx (reciprocal_below a (omega arith)) e (reciprocal_right a x hx e)
