-- The concatenation of an outer code with an inner code: each outer symbol is the inner user whose table stands in its place.
use Rattle.std.specs.Prelude.{ℕ, ◌+◌, ◌*◌, ◌/◌, ◌%◌, min, List, [], ◌∷◌, nat_lt}
use Rattle.code.specs.Meaning.{CodeMeaning}
use Rattle.refusal.specs.declared.Refusal.{Refusal}
use Rattle.refusal.specs.Tables.{Row, row}
use Rattle.refusal.specs.declared.Refusal.TheVariants.{InnerUsersTooFew, LengthTooLong}

-- A bound: a block of equal outer symbols may agree whole, and the inner overlap is counted for every block, for those too; never more than all positions.
abbrev pub concatenated_overlap : CodeMeaning → CodeMeaning → ℕ
concatenated_overlap o i = min (o.overlap * i.length + o.length * i.overlap) (o.length * i.length)

abbrev pub concatenated : CodeMeaning → CodeMeaning → CodeMeaning
concatenated o i = record {
  users = o.users;
  length = o.length * i.length;
  alphabet = i.alphabet;
  overlap = concatenated_overlap o i;
  symbol = λ u p. i.symbol (o.symbol u (p / i.length)) (p % i.length);
}

abbrev pub concatenation_rows : CodeMeaning → CodeMeaning → List (Row Refusal)
concatenation_rows o i =
    row (nat_lt i.users o.alphabet) (InnerUsersTooFew i.users)
    ∷ row (nat_lt 8192 (o.length * i.length)) (LengthTooLong (o.length * i.length))
    ∷ []
