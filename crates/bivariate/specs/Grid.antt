-- Polynomials in x and y laid out in w·d numbers: the coefficient of x^g·y^j stands at g·w + j, for g < d and j < w.
use Rattle.std.specs.Prelude.{◌≡◌, ℕ, ◌+◌, ◌*◌, ◌<◌, ◌≤◌, List, [], ◌∷◌, map, take, drop, slice_index}
use Rattle.std.specs.List.{range_with_len}
use Rattle.field.specs.Meaning.{FieldMeaning}

-- the coefficient of x^g·y^j
abbrev pub cell : ℕ → List ℕ → ℕ → ℕ → ℕ
cell w cs g j = slice_index cs (g * w + j)

-- what stands before x^g: a polynomial in y
abbrev pub group : ℕ → List ℕ → ℕ → List ℕ
group w cs g = take w (drop (g * w) cs)

-- what stands before y^j: a polynomial in x
abbrev pub grid_row : ℕ → ℕ → List ℕ → ℕ → List ℕ
grid_row w d cs j = map (λ g. cell w cs g j) (range_with_len 0 d)

-- the polynomial, by powers of y
abbrev pub grid : ℕ → ℕ → List ℕ → List (List ℕ)
grid w d cs = map (grid_row w d cs) (range_with_len 0 w)

-- its terms have g + v·j < d
abbrev pub Weighted : ℕ → ℕ → ℕ → List ℕ → Type 0
Weighted v w d cs = (g j : ℕ) → g < d → j < w → d ≤ g + v * j → cell w cs g j ≡ 0

-- some coefficient is not 0
abbrev pub Nonzero : ℕ → ℕ → List ℕ → Type 0
Nonzero w d cs = (g : ℕ) × (j : ℕ) × (g < d) × (j < w) × ¬ (cell w cs g j ≡ 0)

-- ---- a shift of y by c

-- p + (y + c)·T
abbrev pub times_linear : FieldMeaning → ℕ → ℕ → List ℕ → List ℕ
times_linear m c p [] = p ∷ []
times_linear m c p (t ∷ T) = m.sum p (m.product c t) ∷ times_linear m c t T

-- P(y + c), for P a polynomial in y
abbrev pub shifted : FieldMeaning → ℕ → List ℕ → List ℕ
shifted m c [] = []
shifted m c (p ∷ P) = times_linear m c p (shifted m c P)
