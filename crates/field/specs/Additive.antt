-- Products of polynomials over two elements are additive in both factors, and additive functions that agree at the powers of x agree.
-- Assumes nothing.
use Rattle.std.specs.Prelude.{◌≡◌, ℕ, zero, suc, ◌*◌, ◌/◌, ◌%◌, ◌^◌, ◌<◌, bit_xor, refl}
use Rattle.std.proofs.Common.{sym, ap, ap₂, ◌∙◌, subst, mod-lt, div-add-mod', add-zero, one-mul, zero-mul, arith, shr_lt, pow_pos}
use Rattle.std.specs.Int.Bits.{xor_assoc, xor_self, xor_zero_r, xor_shifted}
use Rattle.std.proofs.lemmas.Nat.{xor_comm, xor_mod, xor_shr, xor_block}
use Rattle.field.specs.Binary.{gate, shifted, shifted_sum}

abbrev pub Additive : (ℕ → ℕ) → Type 0
Additive f = (a b : ℕ) → f (bit_xor a b) ≡ bit_xor (f a) (f b)

-- (x + y) + (u + v) = (x + u) + (y + v)
swap : (x y u v : ℕ) → bit_xor (bit_xor x y) (bit_xor u v) ≡ bit_xor (bit_xor x u) (bit_xor y v)
swap x y u v =
    xor_assoc x y (bit_xor u v)
    ∙ ap (bit_xor x) (sym (xor_assoc y u v) ∙ ap (λ (n : ℕ). bit_xor n v) (xor_comm y u) ∙ xor_assoc u y v)
    ∙ sym (xor_assoc x u (bit_xor y v))

gate_additive : (bit : ℕ) → Additive (gate bit)
gate_additive zero a b = refl
gate_additive (suc bit) a b = refl

-- the gate is additive in its bit too
gate_bit : (x y p : ℕ) → x < 2 → y < 2 → gate (bit_xor x y) p ≡ bit_xor (gate x p) (gate y p)
gate_bit zero y p hx hy = refl
gate_bit (suc zero) zero p hx hy = sym (xor_zero_r p)
gate_bit (suc zero) (suc zero) p hx hy = sym (xor_self p)
gate_bit (suc zero) (suc (suc y)) p hx hy = absurd (omega arith)
gate_bit (suc (suc x)) y p hx hy = absurd (omega arith)

gate_low : (a b p : ℕ) → gate (bit_xor a b % 2) p ≡ bit_xor (gate (a % 2) p) (gate (b % 2) p)
gate_low a b p =
    ap (λ (n : ℕ). gate n p) (xor_mod a b 1) ∙ gate_bit (a % 2) (b % 2) p (mod-lt a (omega arith)) (mod-lt b (omega arith))

double_additive : Additive (λ a. a * 2)
double_additive a b =
    sym (ap₂ bit_xor (sym (add-zero (a * 2))) (sym (add-zero (b * 2)))
    ∙ xor_block 1 a b 0 0 (omega arith) (omega arith) ∙ add-zero (bit_xor a b * 2))

module _ (top modulus : ℕ) where
  pub shifted_additive : Additive (shifted top modulus)
  shifted_additive a b =
      ap₂ bit_xor
      (ap (λ (n : ℕ). gate (n % 2) modulus) (xor_shr a b top) ∙ gate_low (a / 2 ^ top) (b / 2 ^ top) modulus)
      (double_additive a b)
      ∙ swap (gate (a / 2 ^ top % 2) modulus) (gate (b / 2 ^ top % 2) modulus) (a * 2) (b * 2)

  pub left_additive : (k b : ℕ) → Additive (λ a. shifted_sum top modulus k a b)
  left_additive zero b x y = refl
  left_additive (suc k) b x y =
      ap₂ bit_xor (gate_additive (b % 2) x y)
      (ap (λ (n : ℕ). shifted_sum top modulus k n (b / 2)) (shifted_additive x y)
      ∙ left_additive k (b / 2) (shifted top modulus x) (shifted top modulus y))
      ∙ swap (gate (b % 2) x) (gate (b % 2) y)
      (shifted_sum top modulus k (shifted top modulus x) (b / 2)) (shifted_sum top modulus k (shifted top modulus y) (b / 2))

  pub right_additive : (k a : ℕ) → Additive (shifted_sum top modulus k a)
  right_additive zero a x y = refl
  right_additive (suc k) a x y =
      ap₂ bit_xor (gate_low x y a)
      (ap (shifted_sum top modulus k (shifted top modulus a)) (xor_shr x y 1) ∙ right_additive k (shifted top modulus a) (x / 2) (y / 2))
      ∙ swap (gate (x % 2) a) (gate (y % 2) a)
      (shifted_sum top modulus k (shifted top modulus a) (x / 2)) (shifted_sum top modulus k (shifted top modulus a) (y / 2))

pub at_zero : (f : ℕ → ℕ) → Additive f → f 0 ≡ 0
at_zero f h = h 0 0 ∙ xor_self (f 0)

module _ (f g : ℕ → ℕ) (hf : Additive f) (hg : Additive g) where
  at_bit : (k : ℕ) → f (2 ^ k) ≡ g (2 ^ k) → (c : ℕ) → c < 2 → f (c * 2 ^ k) ≡ g (c * 2 ^ k)
  at_bit k e zero h = rw zero-mul (at_zero f hf ∙ sym (at_zero g hg))
  at_bit k e (suc zero) h = ap f (one-mul (2 ^ k)) ∙ e ∙ ap g (sym (one-mul (2 ^ k)))
  at_bit k e (suc (suc c)) h = absurd (omega arith)

  -- additive functions that agree at the powers of 2 below 2 ^ k agree at all numbers below it
  pub agree_below : (k : ℕ) → ((i : ℕ) → i < k → f (2 ^ i) ≡ g (2 ^ i)) → (a : ℕ) → a < 2 ^ k → f a ≡ g a
  agree_below zero e a h = subst (λ (n : ℕ). f n ≡ g n) (omega arith) (at_zero f hf ∙ sym (at_zero g hg))
  agree_below (suc k) e a h =
      let c : ℕ = a / 2 ^ k in
      let r : ℕ = a % 2 ^ k in
      let lt : r < 2 ^ k = mod-lt a (pow_pos k) in
      let split : bit_xor (c * 2 ^ k) r ≡ a = xor_shifted c k r lt ∙ div-add-mod' a (2 ^ k) in
      subst (λ (n : ℕ). f n ≡ g n) split
      (hf (c * 2 ^ k) r
      ∙ ap₂ bit_xor (at_bit k (e k (omega arith)) c (shr_lt 1 k (subst (λ (n : ℕ). a < 2 ^ n) (omega arith) h)))
      (agree_below k (λ i q. e i (omega arith)) r lt)
      ∙ sym (hg (c * 2 ^ k) r))
