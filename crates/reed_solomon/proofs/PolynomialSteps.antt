-- What the code works out of numbers, digits and values, one step at a time.
-- Assumes nothing.
use Rattle.std.proofs.Common.{◌≡◌, ℕ, suc, ◌-◌, ◌*◌, ◌/◌, ◌%◌, ◌^◌, ◌<◌, ◌≤◌, get_or, Some, Option, refl, sym, ap, ◌∙◌, subst, ap₂, mod-lt, mod-eq_of_lt, mul_comm, pow-suc, mul-div_cancel, arith}
use Rattle.std.specs.Prelude.{IsSome}
use native.Mathlib.Nat.{one-le-pow}
use Rattle.std.proofs.lemmas.Nat.{div_below}
use Rattle.field.specs.Meaning.{FieldMeaning, FieldLaws, pair_answer}
use Rattle.field.specs.Polynomial.{value_at}
use Rattle.field.proofs.Questions.{pair_answered, pair_some}
use Rattle.field.proofs.Numbers.{value_below}
use Rattle.reed_solomon.specs.Polynomials.{digits}
use Rattle.reed_solomon.specs.Digits.{digits_below, top_digit}

-- ---- a value, from the value of the higher coefficients

module _ (f : FieldMeaning) (laws : FieldLaws f) (k number rest x value : ℕ) (more : ¬ (k ≡ 0)) (element : x < f.size)
    (split : rest ≡ number / f.size) (higher : value ≡ value_at f (digits f.size (k - 1) rest) x) where
  positive : 0 < f.size
  positive = omega (arith, laws.size_low)

  value-element : value < f.size
  value-element =
      subst (λ (v : ℕ). v < f.size) (sym higher)
      (value_below f laws (digits f.size (k - 1) rest) (digits_below f.size positive (k - 1) rest) x element)

  -- both are elements, so that their product is there
  pub product_there : (p : Option ℕ) → p ≡ pair_answer f f.product x value → IsSome p
  product_there p e = subst IsSome (sym (e ∙ pair_answered f f.product x value element value-element)) refl

  pub value_step : (digit product result : ℕ) (p s : Option ℕ) → digit ≡ number % f.size → p ≡ pair_answer f f.product x value → p ≡ Some product
      → s ≡ pair_answer f f.sum digit product → s ≡ Some result → result ≡ value_at f (digits f.size k number) x
  value_step digit product result p s low e there h is-sum =
      let digit-element : digit < f.size = omega (arith, mod-lt number positive) in
      let is : product ≡ f.product x value = pair_some f f.product x value element value-element product (sym there ∙ e) in
      let product-element : product < f.size = subst (λ (p : ℕ). p < f.size) (sym is) (laws.product_closed x value element value-element) in
      let whole : suc (k - 1) ≡ k = omega arith in
      pair_some f f.sum digit product digit-element product-element result (sym is-sum ∙ h)
      ∙ ap₂ f.sum low (is ∙ ap (f.product x) (higher ∙ ap (λ (n : ℕ). value_at f (digits f.size (k - 1) n) x) split))
      ∙ ap (λ (n : ℕ). value_at f (digits f.size n number) x) whole

-- ---- the top coefficient

module _ (f : FieldMeaning) (laws : FieldLaws f) (k count user : ℕ) (low : 2 ≤ k) (counted : count ≡ f.size ^ k) (member : user < count) where
  base : 0 < f.size
  base = omega (arith, laws.size_low)

  step : f.size ^ k ≡ f.size ^ (k - 1) * f.size
  step = let whole : k ≡ suc (k - 1) = omega arith in ap (λ (n : ℕ). f.size ^ n) whole ∙ pow-suc f.size (k - 1)

  -- how many polynomials have a top coefficient of 0
  unit : count / f.size ≡ f.size ^ (k - 1)
  unit = ap (λ (x : ℕ). x / f.size) (counted ∙ step) ∙ mul-div_cancel (f.size ^ (k - 1)) base

  pub unit_positive : 0 < count / f.size
  unit_positive = subst (λ (x : ℕ). 0 < x) (sym unit) (one-le-pow (k - 1) f.size base)

  quotient_below : user / (count / f.size) < f.size
  quotient_below =
      div_below user (count / f.size) f.size unit_positive
      (subst (λ (x : ℕ). user < x) (counted ∙ step ∙ mul_comm (f.size ^ (k - 1)) f.size ∙ ap (λ (x : ℕ). f.size * x) (sym unit)) member)

  pub top_fits : user / (count / f.size) < 256
  top_fits = omega (arith, quotient_below, laws.size_high)

  pub top_is : user / (count / f.size) ≡ get_or (digits f.size k user) (k - 1) 0
  top_is =
      let whole : suc (k - 1) ≡ k = omega arith in
      sym (mod-eq_of_lt quotient_below)
      ∙ ap (λ (x : ℕ). user / x % f.size) unit
      ∙ sym (top_digit f.size (k - 1) user)
      ∙ ap (λ (n : ℕ). get_or (digits f.size n user) (k - 1) 0) whole
