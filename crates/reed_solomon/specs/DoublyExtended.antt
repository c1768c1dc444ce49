-- The doubly extended Reed-Solomon code: the values at every element, and the top coefficient at one position more.
use Rattle.std.specs.Prelude.{ℕ, ◌+◌, ◌-◌, ◌^◌, if◌then◌else◌, List, nat_lt, slice_index}
use Rattle.field.specs.Meaning.{FieldMeaning}
use Rattle.field.specs.Polynomial.{value_at}
use Rattle.code.specs.Meaning.{CodeMeaning}
use Rattle.refusal.specs.declared.Refusal.{Refusal}
use Rattle.refusal.specs.Tables.{Row}
use Rattle.reed_solomon.specs.Polynomials.{digits, coefficient_rows}

-- k coefficients
abbrev pub doubly_extended : FieldMeaning → ℕ → CodeMeaning
doubly_extended f k = record {
  users = f.size ^ k;
  length = f.size + 1;
  alphabet = f.size;
  overlap = k - 1;
  symbol = λ u i. if nat_lt i f.size then value_at f (digits f.size k u) i else slice_index (digits f.size k u) (k - 1);
}

abbrev pub extended_rows : ℕ → ℕ → List (Row Refusal)
extended_rows q k = coefficient_rows q q k
