-- The powers of y that terms have, and how many terms there are of the first k powers.
-- Assumes nothing.
use Rattle.std.proofs.Common.{◌≡◌, ℕ, zero, suc, ◌+◌, ◌-◌, ◌*◌, ◌<◌, ◌≤◌, length, sym, refl, ap, ◌∙◌, mod-lt, mul-le-mul_left, mul-suc, div-le_self, arith, length-append}
use native.Mathlib.Nat.{mul-div-le, div-add-mod}
use Rattle.field.specs.Meaning.{FieldMeaning}
use Rattle.bivariate.specs.Terms.{term_count, most_y, powers, monomials_from, monomials}
use Rattle.bivariate.proofs.Degrees.{first_terms, first_terms_more, quotient_low}

-- ---- a·j < d exactly if j ≤ most_y a d

module _ (a d : ℕ) (p : 1 ≤ a) (q : 1 ≤ d) where
  pub most_high : (j : ℕ) → a * j < d → j ≤ most_y a d
  most_high j h = quotient_low a (d - 1) j p (omega arith)

  pub most_low : (j : ℕ) → j ≤ most_y a d → a * j < d
  most_low j h = omega (arith, mul-le-mul_left a h, mul-div-le (d - 1) a)

  pub most_covers : d ≤ a * suc (most_y a d)
  most_covers = omega (arith, div-add-mod (d - 1) a, mod-lt (d - 1) p, mul-suc a (most_y a d))

  pub most_below : suc (most_y a d) ≤ d
  most_below = omega (arith, div-le_self (d - 1) a)

-- ---- terms of the first k powers

pub first_terms_front : (a d k : ℕ) → first_terms a d (suc k) ≡ d + first_terms a (d - a) k
first_terms_front a d zero = omega arith
first_terms_front a d (suc k) =
    omega (arith, first_terms_more a d (suc k), first_terms_front a d k, first_terms_more a (d - a) k, mul-suc a k)

-- where the first k powers are all, more of them change nothing
first_terms_past : (a d k n : ℕ) → d ≤ a * k → first_terms a d (k + n) ≡ first_terms a d k
first_terms_past a d k zero h = let at : k + 0 ≡ k = omega arith in ap (first_terms a d) at
first_terms_past a d k (suc n) h =
    let le : a * k ≤ a * (k + n) = mul-le-mul_left a (omega arith) in
    let at : k + suc n ≡ suc (k + n) = omega arith in
    omega (arith, ap (first_terms a d) at, first_terms_more a d (k + n), first_terms_past a d k n h)

pub first_terms-all : (a d k : ℕ) → d ≤ a * k → k ≤ d → first_terms a d k ≡ term_count a d
first_terms-all a d k h l =
    let at : k + (d - k) ≡ d = omega arith in
    sym (first_terms_past a d k (d - k) h) ∙ ap (first_terms a d) at

pub most_terms : (a d : ℕ) → 1 ≤ a → 1 ≤ d → first_terms a d (suc (most_y a d)) ≡ term_count a d
most_terms a d p q = first_terms-all a d (suc (most_y a d)) (most_covers a d p q) (most_below a d p q)

-- ---- as many values as terms

module _ (m : FieldMeaning) (a x y : ℕ) where
  pub length-powers : (k v : ℕ) → length (powers m x k v) ≡ k
  length-powers zero v = refl
  length-powers (suc k) v = ap suc (length-powers k (m.product x v))

  pub length-monomials_from : (d k v : ℕ) → length (monomials_from m a x y d k v) ≡ first_terms a d k
  length-monomials_from d zero v = refl
  length-monomials_from d (suc k) v =
      omega (
        arith,
        length-append (powers m x d v) (monomials_from m a x y (d - a) k (m.product y v)),
        length-powers d v,
        length-monomials_from (d - a) k (m.product y v),
        first_terms_front a d k,
      )

  pub length-monomials : (d : ℕ) → 1 ≤ a → 1 ≤ d → length (monomials m a d x y) ≡ term_count a d
  length-monomials d p q = length-monomials_from d (suc (most_y a d)) 1 ∙ most_terms a d p q
