-- What questions about the values of polynomials answer.
use Rattle.std.specs.Prelude.{ℕ, suc, Bool, true, ◌&&◌, if◌then◌else◌, List, [], ◌∷◌, length, Some, None, Option, nat_le, nat_lt}
use Rattle.field.specs.Meaning.{FieldMeaning}
use Rattle.field.specs.Polynomial.{value_at}
use Rattle.bivariate.specs.Bivariate.{agreement, points_from}

-- a + b·c has an answer exactly if all three are elements.
abbrev pub multiply_add_answer : FieldMeaning → ℕ → ℕ → ℕ → Option ℕ
multiply_add_answer m a b c =
    if nat_lt a m.size && (nat_lt b m.size && nat_lt c m.size) then Some (m.sum a (m.product b c)) else None

-- whether each number is an element
abbrev pub elements_only : FieldMeaning → List ℕ → Bool
elements_only m [] = true
elements_only m (c ∷ cs) = nat_lt c m.size && elements_only m cs

-- the position of the first number that is no element, or the length where there is none
abbrev pub first_stranger : FieldMeaning → List ℕ → ℕ
first_stranger m [] = 0
first_stranger m (c ∷ cs) = if nat_lt c m.size then suc (first_stranger m cs) else 0

-- The first number that is no element has a position exactly if there is one.
abbrev pub stranger_answer : FieldMeaning → List ℕ → Option ℕ
stranger_answer m cs = if elements_only m cs then None else Some (first_stranger m cs)

-- The value has an answer exactly if the point and all coefficients are elements.
abbrev pub value_answer : FieldMeaning → List ℕ → ℕ → Option ℕ
value_answer m cs x = if nat_lt x m.size && elements_only m cs then Some (value_at m cs x) else None

-- The agreement of a word with a polynomial has an answer exactly if there is an element for each position, and all numbers of the word and all coefficients are elements.
abbrev pub agreement_answer : FieldMeaning → List ℕ → List ℕ → Option ℕ
agreement_answer m word cs =
    if nat_le (length word) m.size && (elements_only m word && elements_only m cs)
    then Some (agreement m cs (points_from 0 word))
    else None
