-- A step from one polynomial in x and y to another, both laid out in w·d numbers.
use Rattle.std.specs.Prelude.{◌≡◌, ℕ, ◌+◌, ◌<◌, ◌≤◌, List}
use Rattle.bivariate.specs.Grid.{cell}

-- from cs to cs' divided by x^r, with nothing lost
pub record Divided (w d r : ℕ) (cs cs' : List ℕ) : Type 0 where
  pub lost : (g j : ℕ) → g < r → j < w → cell w cs g j ≡ 0
  pub moved : (g j : ℕ) → g < d → j < w → g + r < d → cell w cs' g j ≡ cell w cs (g + r) j
  pub cleared : (g j : ℕ) → g < d → j < w → d ≤ g + r → cell w cs' g j ≡ 0
