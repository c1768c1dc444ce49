-- The laws of the fields of polynomials over two elements: one argument over the width, from tests that antt computes at the powers of x.
-- Assumes nothing.
use Rattle.std.specs.Prelude.{◌≡◌, ℕ, zero, suc, ◌+◌, ◌-◌, ◌*◌, ◌/◌, ◌%◌, ◌^◌, ◌<◌, ◌≤◌, Bool, true, ◌==◌, bit_xor, nat_eq, refl}
use Rattle.std.proofs.Common.{sym, ap, ap₂, ◌∙◌, subst, mod-lt, div-add-mod', pow-suc, zero-mul, zero-add, arith, lit<, lit≤, pow_pos, shr_lt}
use Rattle.std.proofs.lemmas.Nat.{xor_lt, xor_comm, xor_block}
use Rattle.std.specs.Int.Bits.{xor_assoc, xor_self, xor_zero_r}
use Rattle.std.proofs.lemmas.Bool.{eqb-true}
use Rattle.field.specs.Meaning.{FieldLaws, reciprocal}
use Rattle.field.specs.Binary.{gate, shifted, shifted_sum, product256, product16, binary_field, gf256, gf16}
use Rattle.field.specs.Computed.{all_below, at_each}
use Rattle.field.specs.Reciprocal.{reciprocal_below, reciprocal_right, reciprocal_is}
use Rattle.field.specs.Additive.{Additive, left_additive, right_additive, agree_below}

-- a modulus of degree top + 1 is x^(top + 1) and the rest
module _ (top rest : ℕ) (low : rest < 2 ^ suc top) where
  abbrev modulus : ℕ
  modulus = 1 * 2 ^ suc top + rest

  gate_lt : (bit a : ℕ) → a < 2 ^ suc top → gate bit a < 2 ^ suc top
  gate_lt zero a h = pow_pos (suc top)
  gate_lt (suc bit) a h = h

  -- where the top coefficient was 1, the modulus takes it away
  shifted_lt : (a : ℕ) → a < 2 ^ suc top → shifted top modulus a < 2 ^ suc top
  shifted_lt a h = by (a / 2 ^ top) (shr_lt 1 top (subst (λ (n : ℕ). a < 2 ^ n) (omega arith) h)) split
    where
      split : a / 2 ^ top * 2 ^ top + a % 2 ^ top ≡ a
      split = div-add-mod' a (2 ^ top)

      lt : a % 2 ^ top < 2 ^ top
      lt = mod-lt a (pow_pos top)

      by : (c : ℕ) → c < 2 → c * 2 ^ top + a % 2 ^ top ≡ a → bit_xor (gate (c % 2) modulus) (a * 2) < 2 ^ suc top
      by zero q e = omega (arith, pow-suc 2 top, zero-mul (2 ^ top))
      by (suc zero) q e =
          let r : ℕ = a % 2 ^ top * 2 in
          let small : r < 2 ^ suc top = omega (arith, pow-suc 2 top) in
          let whole : a * 2 ≡ 1 * 2 ^ suc top + r = omega (arith, pow-suc 2 top) in
          subst (λ (n : ℕ). n < 2 ^ suc top)
          (sym (ap (bit_xor modulus) whole ∙ xor_block (suc top) 1 1 rest r low small ∙ ap (λ (n : ℕ). n + bit_xor rest r) (zero-mul (2 ^ suc top)) ∙ zero-add (bit_xor rest r)))
          (xor_lt (suc top) rest r low small)
      by (suc (suc c)) q e = absurd (omega arith)

  sum_lt : (k a b : ℕ) → a < 2 ^ suc top → shifted_sum top modulus k a b < 2 ^ suc top
  sum_lt zero a b h = pow_pos (suc top)
  sum_lt (suc k) a b h =
      xor_lt (suc top) (gate (b % 2) a) (shifted_sum top modulus k (shifted top modulus a) (b / 2))
      (gate_lt (b % 2) a h) (sum_lt k (shifted top modulus a) (b / 2) (shifted_lt a h))

  abbrev product : ℕ → ℕ → ℕ
  product = shifted_sum top modulus (suc top)

  -- a^2·a^4·…·a^(2^j)
  abbrev squares : ℕ → ℕ → ℕ
  squares zero a = 1
  squares (suc j) a = product (product a a) (squares j (product a a))

  abbrev comm_test : ℕ → ℕ → Bool
  comm_test i j = product (2 ^ i) (2 ^ j) == product (2 ^ j) (2 ^ i)

  abbrev assoc_test : ℕ → ℕ → ℕ → Bool
  assoc_test i j k = product (product (2 ^ i) (2 ^ j)) (2 ^ k) == product (2 ^ i) (product (2 ^ j) (2 ^ k))

  abbrev one_test : ℕ → Bool
  one_test i = product (2 ^ i) 1 == 2 ^ i

  -- the power with exponent 2 + 4 + … + 2^top is the inverse
  abbrev inverse_test : ℕ → Bool
  inverse_test a = product a (squares top a) == gate a 1

  -- what is computed of a modulus
  abbrev Tests : Type 0
  Tests =
      (all_below (suc top) (λ i. all_below (suc top) (comm_test i)) ≡ true)
      × (all_below (suc top) (λ i. all_below (suc top) (λ j. all_below (suc top) (assoc_test i j))) ≡ true)
      × (all_below (suc top) one_test ≡ true)
      × (all_below (2 ^ suc top) inverse_test ≡ true)

  product_lt : (a b : ℕ) → a < 2 ^ suc top → product a b < 2 ^ suc top
  product_lt a b h = sum_lt (suc top) a b h

  module _ (tests : Tests) (some : 1 < 2 ^ suc top) where
    left : (b : ℕ) → Additive (λ a. product a b)
    left b = left_additive top modulus (suc top) b

    right : (a : ℕ) → Additive (product a)
    right a = right_additive top modulus (suc top) a

    comm : (a b : ℕ) → a < 2 ^ suc top → b < 2 ^ suc top → product a b ≡ product b a
    comm a b ha hb =
        agree_below (λ x. product x b) (product b) (left b) (right b) (suc top)
        (λ i hi. agree_below (product (2 ^ i)) (λ y. product y (2 ^ i)) (right (2 ^ i)) (left (2 ^ i)) (suc top)
        (λ j hj. eqb-true _ _
        (at_each (suc top) (comm_test i) (at_each (suc top) (λ i. all_below (suc top) (comm_test i)) tests.0 i hi) j hj)) b hb) a ha

    assoc : (a b c : ℕ) → a < 2 ^ suc top → b < 2 ^ suc top → c < 2 ^ suc top → product (product a b) c ≡ product a (product b c)
    assoc a b c ha hb hc =
        agree_below (λ x. product (product x b) c) (λ x. product x (product b c))
        (λ x y. ap (λ (z : ℕ). product z c) (left b x y) ∙ left c (product x b) (product y b)) (left (product b c)) (suc top)
        (λ i hi. agree_below (λ y. product (product (2 ^ i) y) c) (λ y. product (2 ^ i) (product y c))
        (λ x y. ap (λ (z : ℕ). product z c) (right (2 ^ i) x y) ∙ left c (product (2 ^ i) x) (product (2 ^ i) y))
        (λ x y. ap (product (2 ^ i)) (left c x y) ∙ right (2 ^ i) (product x c) (product y c)) (suc top)
        (λ j hj. agree_below (product (product (2 ^ i) (2 ^ j))) (λ z. product (2 ^ i) (product (2 ^ j) z))
        (right (product (2 ^ i) (2 ^ j)))
        (λ x y. ap (product (2 ^ i)) (right (2 ^ j) x y) ∙ right (2 ^ i) (product (2 ^ j) x) (product (2 ^ j) y)) (suc top)
        (λ k hk. eqb-true _ _
        (at_each (suc top) (assoc_test i j)
        (at_each (suc top) (λ j. all_below (suc top) (assoc_test i j))
        (at_each (suc top) (λ i. all_below (suc top) (λ j. all_below (suc top) (assoc_test i j))) tests.1 i hi) j hj) k hk)) c hc) b hb) a ha

    one : (a : ℕ) → a < 2 ^ suc top → product a 1 ≡ a
    one = agree_below (λ a. product a 1) (λ a. a) (left 1) (λ a b. refl) (suc top)
        (λ i hi. eqb-true _ _ (at_each (suc top) one_test tests.2 i hi))

    squares_lt : (j a : ℕ) → a < 2 ^ suc top → squares j a < 2 ^ suc top
    squares_lt zero a h = some
    squares_lt (suc j) a h = product_lt (product a a) (squares j (product a a)) (product_lt a a h)

    squares_right : (a : ℕ) → a < 2 ^ suc top → ¬ (a ≡ 0) → product a (squares top a) ≡ 1
    squares_right zero h n = absurd (n refl)
    squares_right (suc a) h n = eqb-true _ _ (at_each (2 ^ suc top) inverse_test tests.3 (suc a) h)

    pub binary_inverse : (a x : ℕ) → a < 2 ^ suc top → x < 2 ^ suc top → product a x ≡ 1 → x ≡ reciprocal (2 ^ suc top) product a
    binary_inverse = reciprocal_is (2 ^ suc top) product assoc comm one some

    pub binary_laws : 2 ^ suc top ≤ 256 → FieldLaws (binary_field (2 ^ suc top) product)
    binary_laws high = record {
      size_low = some;
      size_high = high;
      sum_closed = xor_lt (suc top);
      product_closed = λ a b x y. product_lt a b x;
      negative_closed = λ a x. x;
      inverse_closed = λ a x. reciprocal_below (2 ^ suc top) product a (pow_pos (suc top));
      sum_assoc = λ a b c x y z. xor_assoc a b c;
      sum_comm = λ a b x y. xor_comm a b;
      sum-zero = λ a x. xor_zero_r a;
      sum-negative = λ a x. xor_self a;
      product_assoc = assoc;
      product_comm = comm;
      product-one = one;
      distributes = λ a b c x y z. right a b c;
      product-inverse = λ a x n. reciprocal_right (2 ^ suc top) product a (squares top a) (squares_lt top a x) (squares_right a x n);
    }

pub gf256_laws : FieldLaws gf256
unfolding product256
gf256_laws = binary_laws 7 0x1D (lit< tt) (refl, refl, refl, refl) (lit< tt) (lit≤ tt)

pub gf16_laws : FieldLaws gf16
unfolding product16
gf16_laws = binary_laws 3 0x3 (lit< tt) (refl, refl, refl, refl) (lit< tt) (lit≤ tt)

pub inverse256 : (a x : ℕ) → a < 256 → x < 256 → product256 a x ≡ 1 → x ≡ reciprocal 256 product256 a
unfolding product256
inverse256 = binary_inverse 7 0x1D (lit< tt) (refl, refl, refl, refl) (lit< tt)

pub inverse16 : (a x : ℕ) → a < 16 → x < 16 → product16 a x ≡ 1 → x ≡ reciprocal 16 product16 a
unfolding product16
inverse16 = binary_inverse 3 0x3 (lit< tt) (refl, refl, refl, refl) (lit< tt)

-- ---- what the code works out

pub shifted_closed : (a : ℕ) → a < 16 → shifted 3 0x13 a < 16
shifted_closed = shifted_lt 3 0x3 (lit< tt)

pub shifted_high : (a : ℕ) → 8 ≤ a → a < 16 → bit_xor (a * 2) 0x13 ≡ shifted 3 0x13 a
shifted_high a low high =
    let top : a / 2 ^ 3 % 2 ≡ 1 = omega arith in
    xor_comm (a * 2) 0x13 ∙ ap (λ (bit : ℕ). bit_xor (gate bit 0x13) (a * 2)) (sym top)

-- one coefficient more of b in a running sum
pub sum_step : (i s t b s' t' p : ℕ) → i < 4 → t' ≡ shifted 3 0x13 t → s' ≡ bit_xor s (gate (b % 2) t)
    → bit_xor s (shifted_sum 3 0x13 (4 - i) t b) ≡ p → bit_xor s' (shifted_sum 3 0x13 (4 - (i + 1)) t' (b / 2)) ≡ p
sum_step i s t b s' t' p h et es e =
    let rest : ℕ → ℕ = λ k. shifted_sum 3 0x13 k (shifted 3 0x13 t) (b / 2) in
    let more : suc (4 - (i + 1)) ≡ 4 - i = omega arith in
    ap₂ (λ (x y : ℕ). bit_xor x (shifted_sum 3 0x13 (4 - (i + 1)) y (b / 2))) es et
    ∙ xor_assoc s (gate (b % 2) t) (rest (4 - (i + 1)))
    ∙ ap (λ (k : ℕ). bit_xor s (shifted_sum 3 0x13 k t b)) more ∙ e

pub gate_taken : (b t s s' : ℕ) → b % 2 ≡ 1 → s' ≡ bit_xor s t → s' ≡ bit_xor s (gate (b % 2) t)
gate_taken b t s s' h e = e ∙ ap (λ (bit : ℕ). bit_xor s (gate bit t)) (sym h)

pub gate_left : (b t s s' : ℕ) → ¬ (b % 2 ≡ 1) → s' ≡ s → s' ≡ bit_xor s (gate (b % 2) t)
gate_left b t s s' h e =
    let even : 0 ≡ b % 2 = omega arith in
    e ∙ sym (xor_zero_r s) ∙ ap (λ (bit : ℕ). bit_xor s (gate bit t)) even

abbrev power14 : ℕ → ℕ
power14 a =
    let a2 : ℕ = product16 a a in
    let a4 : ℕ = product16 a2 a2 in
    product16 (product16 (product16 a4 a4) a4) a2

power14_right : (a : ℕ) → a < 16 → ¬ (a ≡ 0) → product16 a (power14 a) ≡ 1
unfolding product16
power14_right zero h n = absurd (n refl)
power14_right (suc a) h n = eqb-true _ 1 (at_each 16 (λ a. nat_eq (product16 a (power14 a)) (gate a 1)) refl (suc a) h)

pub power14-inverse : (a a2 a4 a8 a12 r : ℕ) → 0 < a → a < 16 → r < 16
    → a2 ≡ product16 a a → a4 ≡ product16 a2 a2 → a8 ≡ product16 a4 a4 → a12 ≡ product16 a8 a4 → r ≡ product16 a12 a2
    → r ≡ reciprocal 16 product16 a
power14-inverse a a2 a4 a8 a12 r low high closed e2 e4 e8 e12 e =
    let same : r ≡ power14 a = cc in
    inverse16 a r high closed (ap (product16 a) same ∙ power14_right a high (λ z. omega arith))
