-- The laws of the integers modulo 251, and its inverses as powers.
-- Assumes nothing.
use Rattle.std.specs.Prelude.{◌≡◌, ℕ, zero, suc, ◌+◌, ◌-◌, ◌*◌, ◌/◌, ◌%◌, ◌^◌, ◌<◌, nat_eq, refl}
use Rattle.std.proofs.Common.{sym, ap, ◌∙◌, mod-lt, div-add-mod', add-mul, mul_assoc, mul_comm, mul-add, mod-eq_of_lt, pow-suc, one-mul, arith, lit<, lit≤, pow-add}
use Rattle.std.proofs.Math.Nat.{mul-add-mod_self_right, pow-zero}
use Rattle.std.proofs.lemmas.Bool.{eqb-true}
use Rattle.field.specs.Meaning.{FieldLaws, reciprocal}
use Rattle.field.specs.Modular.{times_modulo, modulo251}
use Rattle.field.specs.Binary.{gate}
use Rattle.field.specs.Computed.{at_each}
use Rattle.field.specs.Reciprocal.{reciprocal_below, reciprocal_right, reciprocal_is}

-- a remainder may be taken before a product or after it
mod_times : (a b m : ℕ) → a % m * b % m ≡ a * b % m
mod_times a b m =
    let regroup : a / m * m * b ≡ a / m * b * m = mul_assoc (a / m) m b ∙ ap (λ (x : ℕ). a / m * x) (mul_comm m b) ∙ sym (mul_assoc (a / m) b m) in
    sym (ap (λ (x : ℕ). x * b % m) (sym (div-add-mod' a m))
    ∙ ap (λ (x : ℕ). x % m) (add-mul (a / m * m) (a % m) b ∙ ap (λ (x : ℕ). x + a % m * b) regroup)
    ∙ mul-add-mod_self_right (a / m * b) m (a % m * b))

times_mod : (a b m : ℕ) → a * (b % m) % m ≡ a * b % m
times_mod a b m = ap (λ (x : ℕ). x % m) (mul_comm a (b % m)) ∙ mod_times b a m ∙ ap (λ (x : ℕ). x % m) (mul_comm b a)

-- one step of a chain of powers
pub power_step : (a i j x y r : ℕ) → x ≡ a ^ i % 251 → y ≡ a ^ j % 251 → r ≡ x * y % 251 → r ≡ a ^ (i + j) % 251
power_step a i j x y r ex ey er =
    er ∙ ap (λ (x : ℕ). x * y % 251) ex ∙ mod_times (a ^ i) y 251 ∙ ap (λ (y : ℕ). a ^ i * y % 251) ey
    ∙ times_mod (a ^ i) (a ^ j) 251 ∙ ap (λ (z : ℕ). z % 251) (sym (pow-add a i j))

assoc : (a b c : ℕ) → times_modulo (times_modulo a b) c ≡ times_modulo a (times_modulo b c)
assoc a b c = mod_times (a * b) c 251 ∙ ap (λ (x : ℕ). x % 251) (mul_assoc a b c) ∙ sym (times_mod a (b * c) 251)

comm : (a b : ℕ) → times_modulo a b ≡ times_modulo b a
comm a b = ap (λ (x : ℕ). x % 251) (mul_comm a b)

one : (a : ℕ) → a < 251 → times_modulo a 1 ≡ a
one a h = omega arith

-- 251 is a prime: computed at each number below it
power_right : (a : ℕ) → a < 251 → ¬ (a ≡ 0) → times_modulo a (a ^ 249 % 251) ≡ 1
power_right zero h n = absurd (n refl)
power_right (suc a) h n = eqb-true _ _ (at_each 251 (λ k. nat_eq (times_modulo k (k ^ 249 % 251)) (gate k 1)) refl (suc a) h)

pub power-inverse : (a : ℕ) → a < 251 → ¬ (a ≡ 0) → a ^ 249 % 251 ≡ reciprocal 251 times_modulo a
power-inverse a h n =
    reciprocal_is 251 times_modulo (λ a b c x y z. assoc a b c) (λ a b x y. comm a b) one (lit< tt)
    a (a ^ 249 % 251) h (mod-lt (a ^ 249) (lit< tt)) (power_right a h n)

pub modulo251_laws : FieldLaws modulo251
modulo251_laws = record {
  size_low = lit≤ tt;
  size_high = lit≤ tt;
  sum_closed = λ a b x y. mod-lt (a + b) (lit< tt);
  product_closed = λ a b x y. mod-lt (a * b) (lit< tt);
  negative_closed = λ a x. mod-lt (251 - a) (lit< tt);
  inverse_closed = λ a x. reciprocal_below 251 times_modulo a (lit< tt);
  sum_assoc = λ a b c x y z. omega arith;
  sum_comm = λ a b x y. omega arith;
  sum-zero = λ a x. omega arith;
  sum-negative = λ a x. omega arith;
  product_assoc = λ a b c x y z. assoc a b c;
  product_comm = λ a b x y. comm a b;
  product-one = one;
  distributes = λ a b c x y z. times_mod a (b + c) 251 ∙ omega (arith, mul-add a b c);
  product-inverse = λ a x n. reciprocal_right 251 times_modulo a (a ^ 249 % 251) (mod-lt (a ^ 249) (lit< tt)) (power_right a x n);
}

-- ---- what the code works out

pub power-one : (a : ℕ) → a < 251 → a ≡ a ^ 1 % 251
power-one a h = sym (ap (λ (x : ℕ). x % 251) (pow-suc a 0 ∙ ap (λ (x : ℕ). x * a) (pow-zero a) ∙ one-mul a) ∙ mod-eq_of_lt h)
