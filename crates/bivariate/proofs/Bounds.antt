-- How many numbers a polynomial takes that has its terms laid out by powers of y, where it has just more terms than points.
-- Assumes nothing.
use Rattle.std.proofs.Common.{◌≡◌, ℕ, zero, suc, ◌+◌, ◌-◌, ◌*◌, ◌<◌, ◌≤◌, ap, ⊎_elim, suc-mul, mul_comm, mul-le-mul, mul-suc, mul-add, add-one, arith}
use Rattle.std.proofs.lemmas.Bool.{cases_lt}
use Rattle.bivariate.specs.Terms.{term_count, degree_bound, most_y}
use Rattle.bivariate.proofs.Degrees.{first_terms, term_count_more, degree_bound_least, degree_bound_low, degree_bound_high}
use Rattle.bivariate.proofs.Widths.{first_terms_front, most_terms, most_low, most_below}

-- half of what k + 1 powers of y would have if each had d + 1 terms
half_full : (a d k : ℕ) → a * k < d → suc k * suc d ≤ 2 * first_terms a d (suc k)
half_full a d zero h = omega (arith, first_terms_front a d 0, suc-mul 0 (suc d))
half_full a d (suc k) h =
    let split : suc d ≡ suc (d - a) + a = omega (arith, mul-suc a k) in
    omega (
      arith,
      half_full a (d - a) k (omega (arith, mul-suc a k)),
      first_terms_front a d (suc k),
      suc-mul (suc k) (suc d),
      ap (λ (w : ℕ). suc k * w) split,
      mul-add (suc k) (suc (d - a)) a,
      mul_comm (suc k) a,
    )

module _ (n d l : ℕ) (half : suc l * suc d ≤ 2 * (n + l + 1)) where
  area : d * (l + 1) ≤ 2 * n + l + 1
  area = omega (arith, mul-suc (suc l) d, mul_comm (suc l) d, ap (λ (w : ℕ). d * w) (add-one l))

  few : l < d → n ≤ 256 → l ≤ 31
  few wide h =
      ⊎_elim
      (λ (k : 31 < l). absurd (omega (arith, half, mul-le-mul {n₁ = 33} {m₁ = suc (suc l)} {n₂ = suc l} {m₂ = suc d} (omega arith) (omega arith))))
      (λ (k : l ≤ 31). k)
      (cases_lt 31 l)

  within : (a : ℕ) → l < d → a ≤ 7 → n ≤ 256 → (a + 1) * (d * (l + 1) + l + 1) ≤ 8192
  within a wide s h =
      let small : d * (l + 1) + l + 1 ≤ 1024 = omega (arith, area, few wide h) in
      omega (arith, mul-le-mul {n₁ = a + 1} {m₁ = d * (l + 1) + l + 1} {n₂ = 8} {m₂ = 1024} (omega arith) small)

module _ (a n : ℕ) (p : 1 ≤ a) where
  pub bound_term_count : term_count a (degree_bound a n) ≤ n + most_y a (degree_bound a n) + 1
  bound_term_count =
      let low = degree_bound_low a n p in
      let one : suc (degree_bound a n - 1) ≡ degree_bound a n = omega arith in
      omega (
        arith,
        ap (term_count a) one,
        term_count_more a (degree_bound a n - 1) p,
        (degree_bound_least a n p).least (degree_bound a n - 1) (omega arith),
      )

  half : suc (most_y a (degree_bound a n)) * suc (degree_bound a n) ≤ 2 * (n + most_y a (degree_bound a n) + 1)
  half =
      let low = degree_bound_low a n p in
      omega (
        arith,
        bound_term_count,
        most_terms a (degree_bound a n) p low,
        half_full a (degree_bound a n) (most_y a (degree_bound a n)) (most_low a (degree_bound a n) p low (most_y a (degree_bound a n)) (omega arith)),
      )

  wide : most_y a (degree_bound a n) < degree_bound a n
  wide = most_below a (degree_bound a n) p (degree_bound_low a n p)

  pub bound_area : degree_bound a n * (most_y a (degree_bound a n) + 1) ≤ 2 * n + most_y a (degree_bound a n) + 1
  bound_area = area n (degree_bound a n) (most_y a (degree_bound a n)) half

  pub bound_most : most_y a (degree_bound a n) ≤ n
  bound_most = omega (arith, wide, degree_bound_high a n p)

  -- for up to 256 points there are few powers of y
  pub bound_most_few : n ≤ 256 → most_y a (degree_bound a n) ≤ 31
  bound_most_few h = few n (degree_bound a n) (most_y a (degree_bound a n)) half wide h

  pub bound_grid : a ≤ 7 → n ≤ 256 → (a + 1) * (degree_bound a n * (most_y a (degree_bound a n) + 1) + most_y a (degree_bound a n) + 1) ≤ 8192
  bound_grid s h = within n (degree_bound a n) (most_y a (degree_bound a n)) half a wide s h
