-- Vectors over a field of numbers, and a staircase of them that solves linear equations.
use Rattle.std.specs.Prelude.{◌≡◌, ℕ, zero, suc, ◌+◌, ◌*◌, ◌<◌, if◌then◌else◌, List, [], ◌∷◌, length, take, drop, ◌==◌, slice_index}
use Rattle.field.specs.Meaning.{FieldMeaning}
use Rattle.bivariate.specs.Bivariate.{Elements}

-- the sum of the products, place by place: what an equation says of v
abbrev pub dot : FieldMeaning → List ℕ → List ℕ → ℕ
dot m [] v = 0
dot m (a ∷ e) [] = 0
dot m (a ∷ e) (x ∷ v) = m.sum (m.product a x) (dot m e v)

-- v + c·p
abbrev pub plus : FieldMeaning → List ℕ → ℕ → List ℕ → List ℕ
plus m [] c p = []
plus m (x ∷ v) c [] = x ∷ v
plus m (x ∷ v) c (y ∷ p) = m.sum x (m.product c y) ∷ plus m v c p

-- vector number t, where each has w numbers
abbrev pub vector : ℕ → List ℕ → ℕ → List ℕ
vector w vs t = take w (drop (t * w) vs)

-- number s of vector t
abbrev pub entry : ℕ → List ℕ → ℕ → ℕ → ℕ
entry w vs t s = slice_index vs (t * w + s)

-- A vector is alive until its own number, the one at its own place, is made 0.
abbrev pub Alive : ℕ → List ℕ → ℕ → Type 0
Alive w vs t = ¬ (entry w vs t t ≡ 0)

-- how many of the first k vectors are alive
abbrev pub alive_count : ℕ → List ℕ → ℕ → ℕ
alive_count w vs zero = 0
alive_count w vs (suc k) = (if entry w vs k k == 0 then 0 else 1) + alive_count w vs k

-- w vectors of w elements; one that is alive has 1 at its own place and 0 after it
pub record Staircase (m : FieldMeaning) (w : ℕ) (vs : List ℕ) : Type 0 where
  pub sized : length vs ≡ w * w
  pub elements : Elements m vs
  pub own : (t : ℕ) → t < w → Alive w vs t → entry w vs t t ≡ 1
  pub after : (t s : ℕ) → t < s → s < w → Alive w vs t → entry w vs t s ≡ 0

-- each vector that is alive solves the equation
abbrev pub Solves : FieldMeaning → ℕ → List ℕ → List ℕ → Type 0
Solves m w vs e = (t : ℕ) → t < w → Alive w vs t → dot m e (vector w vs t) ≡ 0

-- p is the first vector that is alive and fails the equation
pub record FirstFailing (m : FieldMeaning) (w : ℕ) (vs e : List ℕ) (p : ℕ) : Type 0 where
  pub within : p < w
  pub alive : Alive w vs p
  pub fails : ¬ (dot m e (vector w vs p) ≡ 0)
  pub before : (t : ℕ) → t < p → Alive w vs t → dot m e (vector w vs t) ≡ 0
