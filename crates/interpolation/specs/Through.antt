-- A staircase whose vectors are the coefficients of polynomials that are 0 at given points.
use Rattle.std.specs.Prelude.{◌≡◌, ℕ, ◌+◌, ◌<◌, ◌≤◌, List, length}
use Rattle.std.specs.List.{AllByRecursion}
use Rattle.field.specs.Meaning.{FieldMeaning}
use Rattle.bivariate.specs.Bivariate.{point_value}
use Rattle.bivariate.specs.Terms.{polynomial}
use Rattle.interpolation.specs.Staircase.{vector, Alive, alive_count, Staircase}

-- The polynomial of each vector that is alive is 0 at each point, and no more vectors are dead than there are points.
pub record Through (m : FieldMeaning) (a d w : ℕ) (points : List (ℕ × ℕ)) (vs : List ℕ) : Type 0 where
  pub staircase : Staircase m w vs
  pub vanish : (t : ℕ) → t < w → Alive w vs t → AllByRecursion (λ p. point_value m (polynomial a d (vector w vs t)) p.0 p.1 ≡ 0) points
  pub left : w ≤ length points + alive_count w vs w
