-- Polynomials in x and y over a field of numbers.
-- A polynomial in x is the list of its coefficients, lowest first. One in x and y is the list of its coefficients by powers of y, lowest first, each a polynomial in x.
use Rattle.std.specs.Prelude.{◌≡◌, ℕ, suc, ◌+◌, ◌*◌, ◌<◌, ◌≤◌, if◌then◌else◌, List, [], ◌∷◌, length, ◌==◌, slice_index, slice_index_or}
use Rattle.std.specs.Coded.{le_prop}
use Rattle.std.specs.List.{AllByRecursion, AllByRecursion-prop}
use Rattle.field.specs.Meaning.{FieldMeaning}
use Rattle.field.specs.Polynomial.{value_at}

-- each number is an element
abbrev pub Elements : FieldMeaning → List ℕ → Type 0
Elements m cs = AllByRecursion (λ c. c < m.size) cs

-- a struct can keep it in a ghost field
pub Elements-prop : (m : FieldMeaning) (cs : List ℕ) → IsProp (Elements m cs)
Elements-prop m cs = AllByRecursion-prop (λ c. c < m.size) (λ c. le_prop) cs

-- each coefficient is 0
abbrev pub Zeros : List ℕ → Type 0
Zeros p = AllByRecursion (λ c. c ≡ 0) p

-- ---- sums and products of polynomials in x

abbrev pub poly_sum : FieldMeaning → List ℕ → List ℕ → List ℕ
poly_sum m [] q = q
poly_sum m (a ∷ p) [] = a ∷ p
poly_sum m (a ∷ p) (b ∷ q) = m.sum a b ∷ poly_sum m p q

abbrev pub poly_scale : FieldMeaning → ℕ → List ℕ → List ℕ
poly_scale m c [] = []
poly_scale m c (a ∷ p) = m.product c a ∷ poly_scale m c p

-- what has no coefficients is 0, and so is its product with anything
abbrev pub poly_product : FieldMeaning → List ℕ → List ℕ → List ℕ
poly_product m f [] = []
poly_product m [] (b ∷ q) = []
poly_product m (c ∷ f) (b ∷ q) = poly_sum m (poly_scale m c (b ∷ q)) (0 ∷ poly_product m f (b ∷ q))

-- ---- what a polynomial in x and y becomes where y is given

-- Q(x, y) at a point
abbrev pub point_value : FieldMeaning → List (List ℕ) → ℕ → ℕ → ℕ
point_value m [] x y = 0
point_value m (p ∷ Q) x y = m.sum (value_at m p x) (m.product y (point_value m Q x y))

-- Q(x, f(x)), as a polynomial in x
abbrev pub composed : FieldMeaning → List (List ℕ) → List ℕ → List ℕ
composed m [] f = []
composed m (p ∷ Q) f = poly_sum m p (poly_product m f (composed m Q f))

-- Q(x, f(x)) = 0, as a polynomial
abbrev pub Root : FieldMeaning → List (List ℕ) → List ℕ → Type 0
Root m Q f = Zeros (composed m Q f)

-- no two of the polynomials are the same list
abbrev pub Distinct : List (List ℕ) → Type 0
Distinct [] = Unit {0}
Distinct (f ∷ fs) = AllByRecursion (λ g. ¬ (g ≡ f)) fs × Distinct fs

-- the coefficient of x^g·y^j
abbrev pub coefficient : List (List ℕ) → ℕ → ℕ → ℕ
coefficient Q g j = slice_index (slice_index_or Q j []) g

-- ---- points

-- how many of the points (x, y) have f(x) = y
abbrev pub agreement : FieldMeaning → List ℕ → List (ℕ × ℕ) → ℕ
agreement m f [] = 0
agreement m f (p ∷ ps) = (if value_at m f p.0 == p.1 then 1 else 0) + agreement m f ps

-- the points are pairs of elements
abbrev pub PointsOf : FieldMeaning → List (ℕ × ℕ) → Type 0
PointsOf m ps = AllByRecursion (λ p. (p.0 < m.size) × (p.1 < m.size)) ps

-- the points of a word: the number at a position, over the element of the position's number, counted from x on
abbrev pub points_from : ℕ → List ℕ → List (ℕ × ℕ)
points_from x [] = []
points_from x (y ∷ ys) = (x, y) ∷ points_from (suc x) ys

-- Q interpolates the points with terms x^g·y^j of g + a·j < d: it is not 0, has no other terms, and is 0 at each point.
pub record Interpolates (m : FieldMeaning) (a d : ℕ) (points : List (ℕ × ℕ)) (Q : List (List ℕ)) : Type 0 where
  pub elements : AllByRecursion (Elements m) Q
  pub nonzero : ¬ (AllByRecursion Zeros Q)
  pub weighted : (g j : ℕ) → d ≤ g + a * j → coefficient Q g j ≡ 0
  pub vanishes : AllByRecursion (λ p. point_value m Q p.0 p.1 ≡ 0) points

-- Where f, with at most a + 1 coefficients, agrees with d or more of the points, it is a root of all that interpolates them.
abbrev pub AgreementForcesRoot : FieldMeaning → List (ℕ × ℕ) → List ℕ → Type 0
AgreementForcesRoot m points f =
    (a d : ℕ) (Q : List (List ℕ)) → Interpolates m a d points Q → length f ≤ suc a → d ≤ agreement m f points → Root m Q f
