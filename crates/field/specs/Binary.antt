-- Polynomials over two elements, a number's bits being the coefficients, and the two fields of such polynomials.
use Rattle.std.specs.Prelude.{ℕ, zero, suc, ◌*◌, ◌/◌, ◌%◌, ◌^◌, bit_xor}
use Rattle.field.specs.Meaning.{FieldMeaning, reciprocal}

-- x where the bit is 1, and 0 where it is 0
abbrev pub gate : ℕ → ℕ → ℕ
gate zero x = 0
gate (suc bit) x = x

-- Arithmetic modulo a polynomial of degree top + 1, whose bits are `modulus`.
module _ (top modulus : ℕ) where
  -- a·x: every coefficient moves up by one, and the modulus is taken away where one has reached its degree
  abbrev pub shifted : ℕ → ℕ
  shifted a = bit_xor (gate (a / 2 ^ top % 2) modulus) (a * 2)

  -- the sum of a·x^i over the coefficients i < k of b that are 1
  abbrev pub shifted_sum : ℕ → ℕ → ℕ → ℕ
  shifted_sum zero a b = 0
  shifted_sum (suc k) a b = bit_xor (gate (b % 2) a) (shifted_sum k (shifted a) (b / 2))

-- the product modulo 0x11D = x^8 + x^4 + x^3 + x^2 + 1
unfoldable pub product256 : ℕ → ℕ → ℕ
product256 = shifted_sum 7 0x11D 8

-- the product modulo 0x13 = x^4 + x + 1
unfoldable pub product16 : ℕ → ℕ → ℕ
product16 = shifted_sum 3 0x13 4

abbrev pub binary_field : ℕ → (ℕ → ℕ → ℕ) → FieldMeaning
binary_field size product = record {
  size = size;
  sum = bit_xor;
  product = product;
  negative = λ a. a;
  inverse = reciprocal size product;
}

abbrev pub gf256 : FieldMeaning
gf256 = binary_field 256 product256

abbrev pub gf16 : FieldMeaning
gf16 = binary_field 16 product16
