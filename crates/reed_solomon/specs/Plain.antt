-- The plain Reed-Solomon code: a user's table holds the values of the user's polynomial at the first n elements.
use Rattle.std.specs.Prelude.{ℕ, ◌-◌, ◌^◌, not, List, ◌∷◌}
use Rattle.field.specs.Meaning.{FieldMeaning}
use Rattle.field.specs.Polynomial.{value_at}
use Rattle.code.specs.Meaning.{CodeMeaning}
use Rattle.refusal.specs.declared.Refusal.{Refusal}
use Rattle.refusal.specs.Tables.{Row, row, within}
use Rattle.reed_solomon.specs.Polynomials.{digits, coefficient_rows}
use Rattle.refusal.specs.declared.Refusal.TheVariants.{LengthOutOfRange}

-- n positions, k coefficients
abbrev pub plain : FieldMeaning → ℕ → ℕ → CodeMeaning
plain f n k = record {
  users = f.size ^ k;
  length = n;
  alphabet = f.size;
  overlap = k - 1;
  symbol = λ u i. value_at f (digits f.size k u) i;
}

abbrev pub plain_rows : ℕ → ℕ → ℕ → List (Row Refusal)
plain_rows q n k = row (not (within 2 n q)) (LengthOutOfRange n) ∷ coefficient_rows q n k
