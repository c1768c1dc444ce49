-- What a finite field means, the laws that it owes, and what its questions answer.
use Rattle.std.specs.Prelude.{◌≡◌, ℕ, zero, suc, ◌<◌, ◌≤◌, Bool, if◌then◌else◌, ◌&&◌, ◌==◌, Some, None, Option, nat_lt}

-- The elements are the numbers below `size`. The operations matter on these alone.
pub record FieldMeaning : Type 0 where
  pub size : ℕ
  pub sum : ℕ → ℕ → ℕ
  pub product : ℕ → ℕ → ℕ
  pub negative : ℕ → ℕ
  pub inverse : ℕ → ℕ

pub record FieldLaws (m : FieldMeaning) : Type 0 where
  pub size_low : 2 ≤ m.size
  pub size_high : m.size ≤ 256
  pub sum_closed : (a b : ℕ) → a < m.size → b < m.size → m.sum a b < m.size
  pub product_closed : (a b : ℕ) → a < m.size → b < m.size → m.product a b < m.size
  pub negative_closed : (a : ℕ) → a < m.size → m.negative a < m.size
  pub inverse_closed : (a : ℕ) → a < m.size → m.inverse a < m.size
  pub sum_assoc : (a b c : ℕ) → a < m.size → b < m.size → c < m.size → m.sum (m.sum a b) c ≡ m.sum a (m.sum b c)
  pub sum_comm : (a b : ℕ) → a < m.size → b < m.size → m.sum a b ≡ m.sum b a
  pub sum-zero : (a : ℕ) → a < m.size → m.sum a 0 ≡ a
  pub sum-negative : (a : ℕ) → a < m.size → m.sum a (m.negative a) ≡ 0
  pub product_assoc : (a b c : ℕ) → a < m.size → b < m.size → c < m.size → m.product (m.product a b) c ≡ m.product a (m.product b c)
  pub product_comm : (a b : ℕ) → a < m.size → b < m.size → m.product a b ≡ m.product b a
  pub product-one : (a : ℕ) → a < m.size → m.product a 1 ≡ a
  pub distributes : (a b c : ℕ) → a < m.size → b < m.size → c < m.size → m.product a (m.sum b c) ≡ m.sum (m.product a b) (m.product a c)
  pub product-inverse : (a : ℕ) → a < m.size → ¬ (a ≡ 0) → m.product a (m.inverse a) ≡ 1

-- A question about one number has an answer exactly if that is an element.
abbrev pub answer : FieldMeaning → (ℕ → ℕ) → ℕ → Option ℕ
answer m op a = if nat_lt a m.size then Some (op a) else None

-- A question about two numbers has an answer exactly if both are elements.
abbrev pub pair_answer : FieldMeaning → (ℕ → ℕ → ℕ) → ℕ → ℕ → Option ℕ
pair_answer m op a b = if nat_lt a m.size && nat_lt b m.size then Some (op a b) else None

-- The inverse of 0 has no answer, and all else is as for any question about one number.
abbrev pub inverse_answer : FieldMeaning → ℕ → Option ℕ
inverse_answer m a = if nat_lt 0 a && nat_lt a m.size then Some (m.inverse a) else None

-- The first of the n numbers from i on that passes the test, or 0 where none does.
abbrev pub first_from : (ℕ → Bool) → ℕ → ℕ → ℕ
first_from test i zero = 0
first_from test i (suc n) = if test i then i else first_from test (suc i) n

-- The inverse by its meaning alone: the first element whose product with a is 1, or 0 where there is none, as at a = 0.
unfoldable pub reciprocal : ℕ → (ℕ → ℕ → ℕ) → ℕ → ℕ
reciprocal size product a = first_from (λ b. product a b == 1) 0 size
