-- The digits of a number: how many, how large, and that they tell the number.
-- Assumes nothing.
use Rattle.std.specs.Prelude.{◌≡◌, ℕ, zero, suc, ◌+◌, ◌*◌, ◌/◌, ◌%◌, ◌^◌, ◌<◌, [], ◌∷◌, ◌++◌, length, slice_index, refl}
use Rattle.std.proofs.Common.{sym, ap, ap₂, ◌∙◌, mod-lt, div-add-mod', pow-suc, mul_comm, div-one, arith}
use Rattle.std.proofs.Math.Nat.{pow-zero, div-div-eq-div-mul}
use Rattle.std.proofs.Math.Seq.{get_or-append_seam}
use Rattle.std.proofs.lemmas.Nat.{div_below}
use Rattle.field.proofs.Numbers.{Below}
use Rattle.reed_solomon.specs.Polynomials.{digits}

pub digits-length : (q k u : ℕ) → length (digits q k u) ≡ k
digits-length q zero u = refl
digits-length q (suc k) u = ap suc (digits-length q k (u / q))

pub digits_below : (q : ℕ) → 0 < q → (k u : ℕ) → Below q (digits q k u)
digits_below q h zero u = tt
digits_below q h (suc k) u = (mod-lt u h, digits_below q h k (u / q))

pub digits_tell : (q : ℕ) → 0 < q → (k u v : ℕ) → u < q ^ k → v < q ^ k → digits q k u ≡ digits q k v → u ≡ v
digits_tell q h zero u v hu hv e = omega (arith, pow-zero q)
digits_tell q h (suc k) u v hu hv e =
    let low : u % q ≡ v % q = cc in
    let rest : digits q k (u / q) ≡ digits q k (v / q) = cc in
    let high : u / q ≡ v / q =
    digits_tell q h k (u / q) (v / q) (div_below u q (q ^ k) h (rw pow-suc at hu)) (div_below v q (q ^ k) h (rw pow-suc at hv)) rest in
    sym (div-add-mod' u q) ∙ ap₂ (λ (x y : ℕ). x * q + y) high low ∙ div-add-mod' v q

-- the top digit stands last
pub digits_top : (q k u : ℕ) → digits q (suc k) u ≡ digits q k u ++ (u / q ^ k % q ∷ [])
digits_top q zero u = ap (λ (x : ℕ). x % q ∷ []) (sym (ap (λ (x : ℕ). u / x) (pow-zero q) ∙ div-one u))
digits_top q (suc k) u =
    ap (λ l. u % q ∷ l)
    (digits_top q k (u / q)
    ∙ ap (λ (x : ℕ). digits q k (u / q) ++ (x % q ∷ [])) (div-div-eq-div-mul u q (q ^ k) ∙ ap (λ (x : ℕ). u / x) (mul_comm q (q ^ k) ∙ sym (pow-suc q k))))

pub top_digit : (q k u : ℕ) → slice_index (digits q (suc k) u) k ≡ u / q ^ k % q
top_digit q k u =
    ap (λ l. slice_index l k) (digits_top q k u)
    ∙ ap (λ (n : ℕ). slice_index (digits q k u ++ (u / q ^ k % q ∷ [])) n) (sym (digits-length q k u))
    ∙ get_or-append_seam (digits q k u) (u / q ^ k % q) [] 0
