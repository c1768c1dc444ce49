-- What finding roots does to a polynomial in x and y, laid out in a grid, on the way to the next coefficient.
use Rattle.std.specs.Prelude.{◌≡◌, ℕ, ◌-◌, ◌<◌, ◌≤◌, List, length}
use Rattle.field.specs.Meaning.{FieldMeaning}
use Rattle.bivariate.specs.Grid.{cell, group, shifted}

-- after is before with y + c in the place of y
pub record Shifted (m : FieldMeaning) (c w d : ℕ) (before after : List ℕ) : Type 0 where
  pub same_length : length after ≡ length before
  pub groups : (g : ℕ) → g < d → group w after g ≡ shifted m c (group w before g)

-- after is before with x·y in the place of y, as far as it has room
pub record Spread (w d : ℕ) (before after : List ℕ) : Type 0 where
  pub same_length : length after ≡ length before
  pub moved : (g j : ℕ) → g < d → j < w → j ≤ g → cell w after g j ≡ cell w before (g - j) j
  pub emptied : (g j : ℕ) → g < d → j < w → g < j → cell w after g j ≡ 0

-- x does not divide the polynomial: some coefficient without x is not 0
abbrev pub Indivisible : ℕ → List ℕ → Type 0
Indivisible w cs = (j : ℕ) × (j < w) × ¬ (cell w cs 0 j ≡ 0)
