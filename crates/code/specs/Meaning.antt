-- What a code means, the laws that it owes, and what its question for a symbol answers.
use Rattle.std.specs.Prelude.{◌≡◌, ℕ, ◌^◌, ◌<◌, ◌≤◌, if◌then◌else◌, ◌&&◌, Some, None, Option, nat_lt}
use Rattle.field.specs.Polynomial.{agreements}

-- The users are the numbers below `users`, the positions those below `length`, and the symbols those below `alphabet`.
-- A user's table is `symbol u`: a key number for each position. Two tables agree in at most `overlap` positions.
pub record CodeMeaning : Type 0 where
  pub users : ℕ
  pub length : ℕ
  pub alphabet : ℕ
  pub overlap : ℕ
  pub symbol : ℕ → ℕ → ℕ

pub record CodeLaws (m : CodeMeaning) : Type 0 where
  pub users_low : 1 ≤ m.users
  pub users_high : m.users ≤ 2 ^ 32
  pub length_low : 1 ≤ m.length
  pub length_high : m.length ≤ 8192
  pub alphabet_low : 2 ≤ m.alphabet
  pub alphabet_high : m.alphabet ≤ 256
  pub overlap_high : m.overlap ≤ m.length
  pub symbol_below : (u i : ℕ) → u < m.users → i < m.length → m.symbol u i < m.alphabet
  pub overlap_holds : (u v : ℕ) → u < m.users → v < m.users → ¬ (u ≡ v) → agreements (m.symbol u) (m.symbol v) m.length ≤ m.overlap

-- a symbol is absent exactly if the user or the position is out of range
abbrev pub symbol_at : CodeMeaning → ℕ → ℕ → Option ℕ
symbol_at m u i = if nat_lt u m.users && nat_lt i m.length then Some (m.symbol u i) else None

-- in how many positions two tables agree; absent exactly if one of the users is out of range
abbrev pub shared_positions : CodeMeaning → ℕ → ℕ → Option ℕ
shared_positions m u v = if nat_lt u m.users && nat_lt v m.users then Some (agreements (m.symbol u) (m.symbol v) m.length) else None

-- The least code: one user, one position, and no more key numbers than a code must have.
abbrev pub lone : CodeMeaning
lone = record { users = 1; length = 1; alphabet = 2; overlap = 0; symbol = λ u i. 0 }
