-- The steps of a search for a coefficient among those of a polynomial.
-- Assumes nothing.
use Rattle.std.proofs.Common.{◌≡◌, ℕ, zero, suc, ◌+◌, ◌-◌, ◌*◌, ◌<◌, ◌≤◌, List, length, get_or, sym, ap, ◌∙◌, ⊎_elim, mul-le-mul_left, mul-suc, add-one, arith}
use Rattle.std.proofs.lemmas.List.{get_or_past}
use Rattle.std.proofs.lemmas.Bool.{cases_lt}
use Rattle.bivariate.specs.Bivariate.{coefficient}
use Rattle.bivariate.specs.Terms.{polynomial}
use Rattle.bivariate.proofs.Degrees.{first_terms, first_terms_more}
use Rattle.bivariate.proofs.Coefficients.{polynomial_weighted, polynomial-coefficient}

first_terms_rise : (a d k n : ℕ) → first_terms a d k ≤ first_terms a d (k + n)
first_terms_rise a d k zero = let at : k + 0 ≡ k = omega arith in omega (arith, ap (first_terms a d) at)
first_terms_rise a d k (suc n) =
    let at : k + suc n ≡ suc (k + n) = omega arith in
    omega (arith, ap (first_terms a d) at, first_terms_more a d (k + n), first_terms_rise a d k n)

first_terms-up : (a d k j : ℕ) → k ≤ j → first_terms a d k ≤ first_terms a d j
first_terms-up a d k j h = let at : k + (j - k) ≡ j = omega arith in omega (arith, first_terms_rise a d k (j - k), ap (first_terms a d) at)

pub power_more : (a d : ℕ) (cs : List ℕ) (power start width : ℕ) → start ≡ first_terms a d power → width + a * power ≡ d
    → a < width → width < length cs - start
    → (start + width ≡ first_terms a d (power + 1)) × (width - a + a * (power + 1) ≡ d) × (start + width ≤ length cs)
power_more a d cs power start width before wide h l = (
  omega (arith, first_terms_more a d power, ap (first_terms a d) (add-one power)),
  omega (arith, mul-suc a power, ap (λ (n : ℕ). a * n) (add-one power)),
  omega arith,
)

module _ (a d : ℕ) (cs : List ℕ) (g j : ℕ) (p : 1 ≤ a) (q : 1 ≤ d) where
  abbrev sought : ℕ
  sought = coefficient (polynomial a d cs) g j

  -- what the first j powers leave nothing for is 0
  past_end : length cs ≤ first_terms a d j → sought ≡ 0
  past_end h =
      ⊎_elim
      (λ (l : g + a * j < d). polynomial-coefficient a d cs g j (omega arith) l ∙ get_or_past cs (first_terms a d j + g) 0 (omega arith))
      (λ (l : d ≤ g + a * j). polynomial_weighted a d cs g j l)
      (cases_lt (g + a * j) d)

  module _ (power start width : ℕ) (before : start ≡ first_terms a d power) (wide : width + a * power ≡ d) where
    pub powers_out : power < j → width ≤ a → 0 ≡ sought
    powers_out h l =
        let high : a * suc power ≤ a * j = mul-le-mul_left a (omega arith) in
        sym (polynomial_weighted a d cs g j (omega (arith, mul-suc a power)))

    pub coefficients_out : power < j → length cs - start ≤ width → 0 ≡ sought
    coefficients_out h l =
        sym (past_end (omega (arith, first_terms_more a d power, first_terms-up a d (suc power) j (omega arith))))

    module _ (all : power ≡ j) where
      same : a * power ≡ a * j
      same = ap (λ (n : ℕ). a * n) all

      start_is : start ≡ first_terms a d j
      start_is = before ∙ ap (first_terms a d) all

      pub coefficient_read : g < width → get_or cs (start + g) 0 ≡ sought
      coefficient_read h =
          sym (polynomial-coefficient a d cs g j (omega arith) (omega (arith, same)) ∙ sym (ap (λ (n : ℕ). get_or cs (n + g) 0) start_is))

      pub coefficient_wide : width ≤ g → 0 ≡ sought
      coefficient_wide h = sym (polynomial_weighted a d cs g j (omega (arith, same)))

      pub coefficient_past : g < width → length cs - start ≤ g → 0 ≡ sought
      coefficient_past h l =
          sym
          (polynomial-coefficient a d cs g j (omega arith) (omega (arith, same))
          ∙ get_or_past cs (first_terms a d j + g) 0 (omega (arith, start_is)))
