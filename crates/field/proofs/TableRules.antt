-- The tables of GF(256): their rules, and products and inverses by any tables that have them.
-- Assumes nothing.
use Rattle.std.proofs.Common.{◌≡◌, ℕ, zero, suc, ◌+◌, ◌*◌, ◌/◌, ◌%◌, ◌<◌, Bool, true, ◌&&◌, eqb, ltb, List, get_or, sym, refl, ap, ◌∙◌, ap₂, mod-lt, suc-add, div-add-mod', zero-add, arith, lit<}
use lib.Bits.{bit_xor}
use Rattle.std.proofs.lemmas.Bool.{eqb-true, ltb-true, and_parts}
use Rattle.field.specs.Meaning.{reciprocal}
use Rattle.field.specs.Binary.{gate, shifted, shifted_sum, product256}
use Rattle.field.specs.Tables.{power_of_two, PowerTable, LogarithmTable, InverseTable}
use Rattle.field.specs.Computed.{all_below, at_each}
use Rattle.field.specs.Additive.{shifted_additive, right_additive, at_zero}
use Rattle.field.specs.BinaryLaws.{gf256_laws, inverse256}

-- ---- a·x^i, one step at a time

abbrev iterate : (ℕ → ℕ) → ℕ → ℕ → ℕ
iterate f zero a = a
iterate f (suc i) a = f (iterate f i a)

iterate-add : (f : ℕ → ℕ) (i j a : ℕ) → iterate f (i + j) a ≡ iterate f i (iterate f j a)
iterate-add f zero j a = ap (λ (n : ℕ). iterate f n a) (zero-add j)
iterate-add f (suc i) j a = ap (λ (n : ℕ). iterate f n a) (suc-add i j) ∙ ap f (iterate-add f i j a)

module _ (top modulus : ℕ) where
  gate-shifted : (bit a : ℕ) → gate bit (shifted top modulus a) ≡ shifted top modulus (gate bit a)
  gate-shifted zero a = sym (at_zero (shifted top modulus) (shifted_additive top modulus))
  gate-shifted (suc bit) a = refl

  -- (a·x)·b = (a·b)·x
  sum_shifted : (k a b : ℕ) → shifted_sum top modulus k (shifted top modulus a) b ≡ shifted top modulus (shifted_sum top modulus k a b)
  sum_shifted zero a b = sym (at_zero (shifted top modulus) (shifted_additive top modulus))
  sum_shifted (suc k) a b =
      ap₂ bit_xor (gate-shifted (b % 2) a) (sum_shifted k (shifted top modulus a) (b / 2))
      ∙ sym (shifted_additive top modulus (gate (b % 2) a) (shifted_sum top modulus k (shifted top modulus a) (b / 2)))

abbrev double : ℕ → ℕ
double = shifted 7 0x11D

product-iterate : (i a b : ℕ) → product256 (iterate double i a) b ≡ iterate double i (product256 a b)
unfolding product256
product-iterate zero a b = refl
product-iterate (suc i) a b = sum_shifted 7 0x11D 8 (iterate double i a) b ∙ ap double (product-iterate i a b)

-- ---- the powers of 2, which come round after 255 steps

abbrev power : ℕ → ℕ
power i = iterate double i 1

period : (d r : ℕ) → power (d * 255 + r) ≡ power r
period zero r = let e : 0 * 255 + r ≡ r = omega arith in ap power e
period (suc d) r =
    let e : suc d * 255 + r ≡ (d * 255 + r) + 255 = omega arith in
    ap power e ∙ iterate-add double (d * 255 + r) 255 1 ∙ period d r

-- a product with 2 is a shift
double_is : (b : ℕ) → b < 256 → product256 2 b ≡ double b
double_is b h = product-iterate 1 1 b ∙ ap double (one-times b h)
  where
    one-times : (b : ℕ) → b < 256 → product256 1 b ≡ b
    one-times b h = gf256_laws.product_comm 1 b (lit< tt) h ∙ gf256_laws.product-one b h

power_of_two_lt : (i : ℕ) → power_of_two i < 256
power_of_two_lt zero = lit< tt
power_of_two_lt (suc i) = gf256_laws.product_closed 2 (power_of_two i) (lit< tt) (power_of_two_lt i)

power_of_two_is : (i : ℕ) → power_of_two i ≡ power i
power_of_two_is zero = refl
power_of_two_is (suc i) = double_is (power_of_two i) (power_of_two_lt i) ∙ ap double (power_of_two_is i)

-- ---- the rules of tables, from tests that antt computes at each entry

pub power_table : (table : List ℕ) → all_below 255 (λ i. eqb (get_or table i 0) (power i)) ≡ true → PowerTable table
power_table table all = record {
  power = λ i h. eqb-true _ _ (at_each 255 (λ i. eqb (get_or table i 0) (power i)) all i h) ∙ sym (power_of_two_is i);
}

pub logarithm_table : (table : List ℕ) → all_below 256 (λ a. eqb (gate a (power (get_or table a 0))) a) ≡ true → LogarithmTable table
logarithm_table table all = record { logarithm = by }
  where
    by : (a : ℕ) → a < 256 → ¬ (a ≡ 0) → power_of_two (get_or table a 0) ≡ a
    by zero h n = absurd (n refl)
    by (suc a) h n =
        power_of_two_is (get_or table (suc a) 0)
        ∙ eqb-true _ _ (at_each 256 (λ a. eqb (gate a (power (get_or table a 0))) a) all (suc a) h)

abbrev pub inverse_test : List ℕ → ℕ → Bool
inverse_test table a = eqb (product256 a (get_or table a 0)) (gate a 1) && ltb (get_or table a 0) 256

pub inverse_table : (table : List ℕ) → get_or table 0 0 ≡ 0 → all_below 256 (inverse_test table) ≡ true → InverseTable table
inverse_table table first all = record { zero_entry = first; closed = λ a h. ltb-true _ 256 (parts a h).1; right = by }
  where
    parts : (a : ℕ) → a < 256 → (eqb (product256 a (get_or table a 0)) (gate a 1) ≡ true) × (ltb (get_or table a 0) 256 ≡ true)
    parts a h = and_parts _ _ (at_each 256 (inverse_test table) all a h)

    by : (a : ℕ) → a < 256 → ¬ (a ≡ 0) → product256 a (get_or table a 0) ≡ 1
    by zero h n = absurd (n refl)
    by (suc a) h n = eqb-true _ 1 (parts (suc a) h).0

-- ---- what the code works out by the tables

-- 2^i·2^j = 2^(i + j)
pub by_logarithms : (powers logarithms : List ℕ) → PowerTable powers → LogarithmTable logarithms
    → (a b : ℕ) → a < 256 → b < 256 → ¬ (a ≡ 0) → ¬ (b ≡ 0)
    → get_or powers ((get_or logarithms a 0 + get_or logarithms b 0) % 255) 0 ≡ product256 a b
by_logarithms powers logarithms rule rule' a b ha hb na nb =
    let i : ℕ = get_or logarithms a 0 in
    let j : ℕ = get_or logarithms b 0 in
    let ei : power i ≡ a = sym (power_of_two_is i) ∙ rule'.logarithm a ha na in
    let ej : power j ≡ b = sym (power_of_two_is j) ∙ rule'.logarithm b hb nb in
    let one-times : product256 1 b ≡ b = gf256_laws.product_comm 1 b (lit< tt) hb ∙ gf256_laws.product-one b hb in
    rule.power ((i + j) % 255) (mod-lt (i + j) (lit< tt)) ∙ power_of_two_is ((i + j) % 255)
    ∙ sym (period ((i + j) / 255) ((i + j) % 255)) ∙ ap power (div-add-mod' (i + j) 255)
    ∙ iterate-add double i j 1 ∙ ap (iterate double i) (ej ∙ sym one-times)
    ∙ sym (product-iterate i 1 b) ∙ ap (λ (z : ℕ). product256 z b) ei

-- a product with 0 is 0
pub product-zero : (a : ℕ) → product256 a 0 ≡ 0
unfolding product256
product-zero a = at_zero (shifted_sum 7 0x11D 8 a) (right_additive 7 0x11D 8 a)

pub zero-product : (a : ℕ) → a < 256 → product256 0 a ≡ 0
zero-product a h = gf256_laws.product_comm 0 a (lit< tt) h ∙ product-zero a

pub inverse_entry : (table : List ℕ) → InverseTable table → (a : ℕ) → 0 < a → a < 256 → get_or table a 0 ≡ reciprocal 256 product256 a
inverse_entry table rule a low high = inverse256 a (get_or table a 0) high (rule.closed a high) (rule.right a high (λ z. omega arith))
