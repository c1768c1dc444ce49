-- How the memory is shared between the stages, and what a stage asks of the one above it.
-- Assumes nothing.
use Rattle.std.proofs.Common.{◌≡◌, ℕ, suc, ◌+◌, ◌-◌, ◌*◌, ◌≤◌, List, sym, ap, ◌∙◌, subst, suc-mul, arith}
use Rattle.bivariate.specs.Grid.{Weighted}

-- ---- room for the stages below

module _ (left size : ℕ) where
  split : 1 ≤ left → ¬ (left ≡ 1) → (left - 1) * size ≡ (left - 2) * size + size
  split some more =
      let e : left - 1 ≡ suc (left - 2) = omega arith in
      ap (λ (n : ℕ). n * size) e ∙ suc-mul (left - 2) size

  pub deeper_fits : (memory deeper : ℕ) → 1 ≤ left → ¬ (left ≡ 1) → (left - 1) * size ≤ memory → deeper + size ≡ memory → (left - 2) * size ≤ deeper
  deeper_fits memory deeper some more room e = omega (arith, split some more)

  pub deeper_next : (next deeper : ℕ) → next ≡ size → (left - 2) * size ≤ deeper → (left - 1 - 1) * next ≤ deeper
  deeper_next next deeper same h =
      let e : left - 2 ≡ left - 1 - 1 = omega arith in
      subst (λ (n : ℕ). (left - 1 - 1) * n ≤ deeper) (sym same) (subst (λ (n : ℕ). n * size ≤ deeper) e h)

-- ---- what the stage has

pub weighted_next : (left w d : ℕ) (cs next : List ℕ) → 1 ≤ left → ¬ (left ≡ 1)
    → ((v : ℕ) → Weighted (suc v) w d cs → Weighted v w d next) → Weighted (left - 1) w d cs → Weighted (left - 1 - 1) w d next
weighted_next left w d cs next some more step h =
    let e : left - 1 ≡ suc (left - 1 - 1) = omega arith in
    step (left - 1 - 1) (subst (λ (v : ℕ). Weighted v w d cs) e h)
