-- Polynomials over a field of numbers, as lists of coefficients, lowest first.
use Rattle.std.specs.Prelude.{ℕ, zero, suc, ◌+◌, if◌then◌else◌, List, [], ◌∷◌, ◌==◌}
use Rattle.field.specs.Meaning.{FieldMeaning}

-- the value at x of the polynomial with these coefficients
abbrev pub value_at : FieldMeaning → List ℕ → ℕ → ℕ
value_at m [] x = 0
value_at m (c ∷ cs) x = m.sum c (m.product x (value_at m cs x))

-- at how many of the numbers below n two functions agree
abbrev pub agreements : (ℕ → ℕ) → (ℕ → ℕ) → ℕ → ℕ
agreements f g zero = 0
agreements f g (suc n) = agreements f g n + (if f n == g n then 1 else 0)
