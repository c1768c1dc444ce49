-- How many bytes the search wants.
-- Assumes nothing.
use Rattle.std.proofs.Common.{◌≡◌, ℕ, suc, ◌+◌, ◌*◌, ◌≤◌, sym, ap, ◌∙◌, subst, ap₂, mul_comm, mul-add, add-one, arith}
use Rattle.bivariate.specs.Terms.{degree_bound, most_y}
use Rattle.bivariate.proofs.Bounds.{bound_grid}
use Rattle.decoding.specs.Decoding.{found_bytes, memory_bytes}

-- a row of chosen coefficients, as many rows as polynomials can be found, and the grids
together : (k d l : ℕ) → l * k + (k + k * (d * suc l)) ≡ k * (d * (l + 1) + l + 1)
together k d l =
    let grid : d * suc l ≡ d * (l + 1) = ap (λ (n : ℕ). d * n) (sym (add-one l)) in
    omega (
      arith,
      ap (λ (n : ℕ). k * n) grid,
      mul-add k (d * (l + 1) + l) 1,
      mul-add k (d * (l + 1)) l,
      mul_comm l k,
    )

module _ (a n : ℕ) (weight : 1 ≤ a) where
  pub bytes_few : a ≤ 7 → n ≤ 256 → found_bytes a (degree_bound a n) + memory_bytes a (degree_bound a n) ≤ 8192
  bytes_few light few =
      let k : ℕ = suc a in
      subst (λ (b : ℕ). b ≤ 8192)
      (sym (together (suc a) (degree_bound a n) (most_y a (degree_bound a n)) ∙ ap (λ (i : ℕ). i * (degree_bound a n * (most_y a (degree_bound a n) + 1) + most_y a (degree_bound a n) + 1)) (sym (add-one a))))
      (bound_grid a n weight light few)

  pub bytes_bounded : (b d f s : ℕ) → n ≤ 256 → b ≡ a → d ≡ degree_bound a n → f ≡ found_bytes b d → s ≡ memory_bytes b d → a ≤ 7 → f + s ≤ 8192
  bytes_bounded b d f s few same is found memory light =
      subst (λ (k : ℕ). k ≤ 8192) (sym (ap₂ (λ (x y : ℕ). x + y) (found ∙ ap₂ found_bytes same is) (memory ∙ ap₂ memory_bytes same is))) (bytes_few light few)
