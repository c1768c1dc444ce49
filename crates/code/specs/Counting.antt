-- Counting the places where two functions agree.
-- Assumes nothing.
use Rattle.std.specs.Prelude.{◌≡◌, ℕ, zero, suc, ◌+◌, ◌<◌, ◌≤◌, Bool, true, false, cond, ◌==◌, refl}
use Rattle.std.proofs.Common.{sym, ap, ap₂, ◌∙◌, zero-le, add-zero, add-suc, add_assoc, add-one, arith}
use Rattle.std.specs.List.{count_by, range_with_len}
use Rattle.std.proofs.lemmas.List.Sums.{sum_by-cons}
use Rattle.std.proofs.lemmas.Bool.{eqb-true, eq-eqb, cond-true}
use Rattle.field.specs.Polynomial.{agreements}

one_le : (b : Bool) → cond b 1 0 ≤ 1
one_le true = omega arith
one_le false = omega arith

pub agreements_le : (f g : ℕ → ℕ) (n : ℕ) → agreements f g n ≤ n
agreements_le f g zero = zero-le
agreements_le f g (suc n) = omega (arith, agreements_le f g n, one_le (f n == g n))

-- only the places below n matter
pub agreements_same : (f g f' g' : ℕ → ℕ) (n : ℕ) → ((k : ℕ) → k < n → f k ≡ f' k) → ((k : ℕ) → k < n → g k ≡ g' k)
    → agreements f g n ≡ agreements f' g' n
agreements_same f g f' g' zero p q = refl
agreements_same f g f' g' (suc n) p q =
    ap₂ ◌+◌ (agreements_same f g f' g' n (λ k h. p k (omega arith)) (λ k h. q k (omega arith)))
    (ap₂ (λ (x y : ℕ). cond (x == y) 1 0) (p n (omega arith)) (q n (omega arith)))

-- functions that agree wherever two others do agree at least as often
pub agreements_more : (f g f' g' : ℕ → ℕ) (n : ℕ) → ((k : ℕ) → k < n → f k ≡ g k → f' k ≡ g' k) → agreements f g n ≤ agreements f' g' n
agreements_more f g f' g' zero h = zero-le
agreements_more f g f' g' (suc n) h =
    omega (arith, agreements_more f g f' g' n (λ k l. h k (omega arith)), here (f n == g n) refl)
  where
    here : (b : Bool) → (f n == g n) ≡ b → cond b 1 0 ≤ cond (f' n == g' n) 1 0
    here true e = omega (arith, cond-true {A = ℕ} _ 1 0 (eq-eqb (f' n) (g' n) (h n (omega arith) (eqb-true _ _ e))))
    here false e = zero-le

-- the places below a, and then the n from a on
pub agreements_split : (f g : ℕ → ℕ) (a n : ℕ) → agreements f g (a + n) ≡ agreements f g a + agreements (λ k. f (a + k)) (λ k. g (a + k)) n
agreements_split f g a zero = ap (agreements f g) (add-zero a) ∙ sym (add-zero (agreements f g a))
agreements_split f g a (suc n) =
    ap (agreements f g) (add-suc a n)
    ∙ ap (λ (x : ℕ). x + cond (f (a + n) == g (a + n)) 1 0) (agreements_split f g a n)
    ∙ add_assoc (agreements f g a) (agreements (λ k. f (a + k)) (λ k. g (a + k)) n) (cond (f (a + n) == g (a + n)) 1 0)

-- one place more, of which it is known whether the functions agree there
pub agreements_next : (f g : ℕ → ℕ) (i n n' : ℕ) (b : Bool) → n ≡ agreements f g i → b ≡ (f i == g i) → n' ≡ n + cond b 1 0
    → n' ≡ agreements f g (i + 1)
agreements_next f g i n n' b e eb e' =
    e' ∙ ap₂ (λ (x : ℕ) (b : Bool). x + cond b 1 0) e eb ∙ sym (ap (agreements f g) (add-one i))

-- the places below a, and those of the k from a on that pass a test of whether the functions agree
pub agreements_listed : (f g : ℕ → ℕ) (test : ℕ → Bool) (k a : ℕ) → ((i : ℕ) → i < a + k → test i ≡ (f i == g i))
    → agreements f g a + count_by test (range_with_len a k) ≡ agreements f g (a + k)
agreements_listed f g test zero a same = add-zero (agreements f g a) ∙ sym (ap (agreements f g) (add-zero a))
agreements_listed f g test (suc k) a same =
    let more = agreements_listed f g test k (a + 1) (λ i l. same i (omega arith)) in
    let next : agreements f g (a + 1) ≡ agreements f g a + cond (test a) 1 0 =
    ap (agreements f g) (add-one a) ∙ ap (λ (b : Bool). agreements f g a + cond b 1 0) (sym (same a (omega arith))) in
    let first : count_by test (range_with_len a (suc k)) ≡ cond (test a) 1 0 + count_by test (range_with_len (a + 1) k) =
    sum_by-cons (λ i. cond (test i) 1 0) a (range_with_len (a + 1) k) in
    let at : a + 1 + k ≡ a + suc k = omega arith in
    omega (arith, more, next, first, ap (agreements f g) at)
