-- What is known where no row of the table of faults holds.
-- Assumes nothing.
use Rattle.std.proofs.Common.{◌≡◌, ℕ, ◌+◌, ◌*◌, ◌≤◌, leb, List, length, None}
use Rattle.std.proofs.lemmas.Bool.{not-false, and_parts, leb-true, ltb-false}
use Rattle.field.specs.Meaning.{FieldMeaning}
use Rattle.bivariate.specs.Bivariate.{Elements}
use Rattle.bivariate.specs.Values.{elements_only}
use Rattle.bivariate.proofs.ElementTests.{elements_from}
use Rattle.refusal.specs.Tables.{first_refusal}
use Rattle.refusal.specs.Tables.{within}
use Rattle.refusal.proofs.Rows.{no_row}
use Rattle.interpolation.specs.Interpolation.{interpolation_rows}

-- what the checks leave of the arguments, with r bytes of room and s of memory
pub record Accepted (m : FieldMeaning) (a : ℕ) (word : List ℕ) (r s : ℕ) : Type 0 where
  pub weight : 1 ≤ a
  pub places : length word ≤ m.size
  pub room : length word + 1 ≤ r
  pub memory : (length word + 1) * (length word + 1) ≤ s
  pub elements : Elements m word

pub accepted : (m : FieldMeaning) (a : ℕ) (word : List ℕ) (room memory : ℕ) → first_refusal (interpolation_rows m a word room memory) ≡ None
    → Accepted m a word room memory
accepted m a word room memory h =
    let rows = no_row (interpolation_rows m a word room memory) h in
    let range = and_parts (leb 1 a) (leb a 255) (not-false (within 1 a 255) rows.0) in
    record {
      weight = leb-true 1 a range.0;
      places = ltb-false m.size (length word) rows.1.0;
      room = ltb-false room (length word + 1) rows.1.1.0;
      memory = ltb-false memory ((length word + 1) * (length word + 1)) rows.1.1.1.0;
      elements = elements_from m word (not-false (elements_only m word) rows.1.1.1.1.0);
    }
