-- The rules of the tables of GF(256): powers and logarithms of 2, and inverses.
use Rattle.std.specs.Prelude.{◌≡◌, ℕ, zero, suc, ◌<◌, List, slice_index}
use Rattle.field.specs.Binary.{product256}

-- 2^i
abbrev pub power_of_two : ℕ → ℕ
power_of_two zero = 1
power_of_two (suc i) = product256 2 (power_of_two i)

pub record PowerTable (table : List ℕ) : Type 0 where
  pub power : (i : ℕ) → i < 255 → slice_index table i ≡ power_of_two i

pub record LogarithmTable (table : List ℕ) : Type 0 where
  pub logarithm : (a : ℕ) → a < 256 → ¬ (a ≡ 0) → power_of_two (slice_index table a) ≡ a

pub record InverseTable (table : List ℕ) : Type 0 where
  pub zero_entry : slice_index table 0 ≡ 0
  pub closed : (a : ℕ) → a < 256 → slice_index table a < 256
  pub right : (a : ℕ) → a < 256 → ¬ (a ≡ 0) → product256 a (slice_index table a) ≡ 1
