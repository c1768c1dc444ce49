-- The terms x^g·y^j with g + a·j < d: how many they are, in which order their coefficients stand, and how great d must be.
use Rattle.std.specs.Prelude.{ℕ, zero, suc, ◌+◌, ◌-◌, ◌*◌, ◌/◌, ◌<◌, ◌≤◌, List, [], ◌∷◌, ◌++◌, take, drop, sum_by, nat_lt}
use Rattle.std.specs.List.{range_with_len}
use Rattle.field.specs.Meaning.{FieldMeaning, first_from}

-- the sum of d - a·j over all j with a·j < d (a ≥ 1, so that those are below d): as many terms there are
abbrev pub term_count : ℕ → ℕ → ℕ
term_count a d = sum_by (λ j. d - a * j) (range_with_len 0 d)

-- the least d with more than n terms (a ≥ 1; n + 1 is enough, for there are d terms without y)
abbrev pub degree_bound : ℕ → ℕ → ℕ
degree_bound a n = first_from (λ d. nat_lt n (term_count a d)) 0 (n + 2)

-- d gives more than n terms, and less than d does not.
pub record LeastBound (a n d : ℕ) : Type 0 where
  pub exceeds : n < term_count a d
  pub least : (e : ℕ) → e < d → term_count a e ≤ n

-- the greatest j with a·j < d (a ≥ 1 and d ≥ 1)
abbrev pub most_y : ℕ → ℕ → ℕ
most_y a d = (d - 1) / a

-- The coefficients in order, k powers of y: those of y^0 with x^0 to x^(d-1), those of y^1 with x^0 to x^(d-a-1), and so on. What is missing at the end is 0.
abbrev pub by_powers : ℕ → ℕ → ℕ → List ℕ → List (List ℕ)
by_powers a d zero cs = []
by_powers a d (suc k) cs = take d cs ∷ by_powers a (d - a) k (drop d cs)

-- the polynomial that has these coefficients, in the order of its terms
abbrev pub polynomial : ℕ → ℕ → List ℕ → List (List ℕ)
polynomial a d cs = by_powers a d (suc (most_y a d)) cs

-- ---- the terms at a point, in the same order

-- v, v·x, v·x² and so on, k of them
abbrev pub powers : FieldMeaning → ℕ → ℕ → ℕ → List ℕ
powers m x zero v = []
powers m x (suc k) v = v ∷ powers m x k (m.product x v)

-- v times the terms of k powers of y
abbrev pub monomials_from : FieldMeaning → ℕ → ℕ → ℕ → ℕ → ℕ → ℕ → List ℕ
monomials_from m a x y d zero v = []
monomials_from m a x y d (suc k) v = powers m x d v ++ monomials_from m a x y (d - a) k (m.product y v)

-- the values at (x, y) of all terms
abbrev pub monomials : FieldMeaning → ℕ → ℕ → ℕ → ℕ → List ℕ
monomials m a d x y = monomials_from m a x y d (suc (most_y a d)) 1
