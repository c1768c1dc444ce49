-- Over an abstract field: a polynomial in x and y with w powers of y that has w different roots in y is 0.
-- Assumes nothing.
use Rattle.std.proofs.Common.{◌≡◌, ℕ, zero, suc, ◌<◌, ◌≤◌, ◌⊎◌, List, [], ◌∷◌, length, sym, refl, ap, ◌∙◌, ap₂, inl, inr, arith}
use Rattle.std.specs.List.{AllByRecursion}
use Rattle.std.proofs.lemmas.Bool.{cases_lt}
use Rattle.field.proofs.Abstract.{AbstractField, ring, add-zero, zero-add, add_cancel, mul_cancel, mul_comm}
use Rattle.bivariate.proofs.Sequences.{up, by, value, by-add, by_zero, by_same, by-by}

module _ (F : AbstractField) where
  open F use {E, o, i, ◌⊕◌, ◌⊗◌}

  infixl 65 ◌⊕◌
  infixl 70 ◌⊗◌
  -- ---- a polynomial that is not 0 is no divisor of 0

  ring0 : (c : E) → c ⊗ o ⊕ o ≡ o
  ring0 c = simp ring

  by_low : (f : List E) (q : ℕ → E) (n : ℕ) → ((k : ℕ) → k ≤ n → q k ≡ o) → by F f q n ≡ o
  by_low [] q n h = refl
  by_low (c ∷ f) q zero h = ap (λ y. c ⊗ y ⊕ o) (h 0 (omega arith)) ∙ ring0 c
  by_low (c ∷ f) q (suc n) h = ap₂ (λ x y. c ⊗ x ⊕ y) (h (suc n) (omega arith)) (by_low f q n (λ k l. h k (omega arith))) ∙ ring0 c

  up_low : (f : List E) (q : ℕ → E) (n : ℕ) → ((k : ℕ) → k < n → q k ≡ o) → up F (by F f q) n ≡ o
  up_low f q zero h = refl
  up_low f q (suc n) h = by_low f q n (λ k l. h k (omega arith))

  apart : (a b x : E) → ¬ (a ≡ b) → a ⊗ x ≡ b ⊗ x → x ≡ o
  apart a b x n e = on (F.same x o)
    where
      on : Dec (x ≡ o) → x ≡ o
      on (yes z) = z
      on (no z) = absurd (n (mul_cancel F x a b z (mul_comm F x a ∙ e ∙ mul_comm F b x)))

  apart_firsts : (a b : E) (f g : List E) (q : ℕ → E) → ¬ (a ≡ b) → ((n : ℕ) → by F (a ∷ f) q n ≡ by F (b ∷ g) q n)
      → (top k : ℕ) → k < top → q k ≡ o
  apart_firsts a b f g q n h zero k l = absurd (omega arith)
  apart_firsts a b f g q n h (suc top) k l = on (cases_lt k top) (apart_firsts a b f g q n h top)
    where
      on : (k < top) ⊎ (top ≤ k) → ((j : ℕ) → j < top → q j ≡ o) → q k ≡ o
      on (inl u) low = low k u
      on (inr u) low =
          apart a b (q k) n
          (sym (add-zero F (a ⊗ q k)) ∙ ap (λ y. a ⊗ q k ⊕ y) (sym (up_low f q k (λ j v. low j (omega arith))))
          ∙ h k
          ∙ ap (λ y. b ⊗ q k ⊕ y) (up_low g q k (λ j v. low j (omega arith))) ∙ add-zero F (b ⊗ q k))

  -- f·q = g·q with f other than g only if q = 0
  no_divisor : (f g : List E) (q : ℕ → E) → length f ≡ length g → ¬ (f ≡ g) → ((n : ℕ) → by F f q n ≡ by F g q n) → (n : ℕ) → q n ≡ o
  no_divisor [] [] q e n h k = absurd (n refl)
  no_divisor [] (b ∷ g) q e n h k = absurd (omega arith)
  no_divisor (a ∷ f) [] q e n h k = absurd (omega arith)
  no_divisor (a ∷ f) (b ∷ g) q e n h k = on (F.same a b) (no_divisor f g q (omega arith))
    where
      rest : a ≡ b → (j : ℕ) → by F f q j ≡ by F g q j
      rest z j =
          add_cancel F (a ⊗ q (suc j)) (by F f q j) (by F g q j)
          (h (suc j) ∙ ap (λ c. c ⊗ q (suc j) ⊕ by F g q j) (sym z))

      on : Dec (a ≡ b) → (¬ (f ≡ g) → ((j : ℕ) → by F f q j ≡ by F g q j) → (j : ℕ) → q j ≡ o) → q k ≡ o
      on (yes z) next = next (λ t. n (ap₂ ◌∷◌ z t)) (rest z) k
      on (no z) next = apart_firsts a b f g q z h (suc k) k (omega arith)

  -- ---- division by y - f

  abbrev quotient : List E → List (ℕ → E) → List (ℕ → E)
  quotient f [] = []
  quotient f (s ∷ R) = value F (s ∷ R) f ∷ quotient f R

  quotient-length : (f : List E) (R : List (ℕ → E)) → length (quotient f R) ≡ length R
  quotient-length f [] = refl
  quotient-length f (s ∷ R) = ap suc (quotient-length f R)

  last_step : (p : E) → p ⊕ o ⊕ o ≡ o ⊕ (p ⊕ o)
  last_step p = simp ring

  left_step : (p a b c : E) → p ⊕ a ⊕ (b ⊕ c) ≡ p ⊕ (a ⊕ c) ⊕ b
  left_step p a b c = simp ring

  right_step : (p a b c : E) → p ⊕ (a ⊕ c) ⊕ b ≡ c ⊕ a ⊕ (p ⊕ b)
  right_step p a b c = simp ring

  -- R(g) = (g - f)·q(g) + R(f), written without a difference
  division : (p : ℕ → E) (R : List (ℕ → E)) (f g : List E) (n : ℕ)
      → value F (p ∷ R) g n ⊕ by F f (value F (quotient f R) g) n ≡ by F g (value F (quotient f R) g) n ⊕ value F (p ∷ R) f n
  division p [] f g n =
      ap₂ (λ x y. p n ⊕ x ⊕ y) (by_zero F g n) (by_zero F f n) ∙ last_step (p n) ∙ sym (ap₂ (λ x y. x ⊕ (p n ⊕ y)) (by_zero F g n) (by_zero F f n))
  division p (s ∷ R) f g n =
      ap (λ y. p n ⊕ by F g u n ⊕ y) (by-add F f e (by F g q) n ∙ ap (λ y. by F f e n ⊕ y) (by-by F f g q n))
      ∙ left_step (p n) (by F g u n) (by F f e n) (by F g (by F f q) n)
      ∙ ap (λ y. p n ⊕ y ⊕ by F f e n)
      (sym (by-add F g u (by F f q) n) ∙ by_same F g (division s R f g) n ∙ by-add F g (by F g q) e n)
      ∙ right_step (p n) (by F g (by F g q) n) (by F f e n) (by F g e n)
      ∙ ap (λ y. y ⊕ (p n ⊕ by F f e n)) (sym (by-add F g e (by F g q) n))
    where
      u : ℕ → E
      u = value F (s ∷ R) g

      e : ℕ → E
      e = value F (s ∷ R) f

      q : ℕ → E
      q = value F (quotient f R) g

  -- a root other than f is one of the quotient
  root_quotient : (p : ℕ → E) (R : List (ℕ → E)) (f g : List E) → length g ≡ length f → ¬ (g ≡ f)
      → ((n : ℕ) → value F (p ∷ R) f n ≡ o) → ((n : ℕ) → value F (p ∷ R) g n ≡ o) → (n : ℕ) → value F (quotient f R) g n ≡ o
  root_quotient p R f g e d zf zg =
      no_divisor g f (value F (quotient f R) g) e d
      (λ n. sym (add-zero F (by F g (value F (quotient f R) g) n)) ∙ ap (λ y. by F g (value F (quotient f R) g) n ⊕ y) (sym (zf n))
      ∙ sym (division p R f g n)
      ∙ ap (λ y. y ⊕ by F f (value F (quotient f R) g) n) (zg n) ∙ zero-add F (by F f (value F (quotient f R) g) n))

  -- ---- as many roots as powers of y

  abbrev pub None : List (ℕ → E) → Type 0
  None R = AllByRecursion (λ s. (n : ℕ) → s n ≡ o) R

  value_none : (R : List (ℕ → E)) (f : List E) → None R → (n : ℕ) → value F R f n ≡ o
  value_none [] f h n = refl
  value_none (s ∷ R) f h n = ap₂ ◌⊕◌ (h.0 n) (by_same F f (value_none R f h.1) n ∙ by_zero F f n) ∙ add-zero F o

  -- with a root and no other rows the first row is 0 too
  first_none : (p : ℕ → E) (R : List (ℕ → E)) (f : List E) → None R → ((n : ℕ) → value F (p ∷ R) f n ≡ o) → (n : ℕ) → p n ≡ o
  first_none p R f h z n =
      sym (add-zero F (p n)) ∙ ap (λ y. p n ⊕ y) (sym (by_same F f (value_none R f h) n ∙ by_zero F f n)) ∙ z n

  quotient_none : (f : List E) (R : List (ℕ → E)) → None (quotient f R) → None R
  quotient_none f [] h = tt
  quotient_none f (s ∷ R) h = let rest : None R = quotient_none f R h.1 in (first_none s R f rest h.0, rest)

  abbrev pub Apart : List (List E) → Type 0
  Apart [] = Unit {0}
  Apart (f ∷ fs) = AllByRecursion (λ g. ¬ (g ≡ f)) fs × Apart fs

  quotients : (p : ℕ → E) (R : List (ℕ → E)) (f : List E) (k : ℕ) (fs : List (List E)) → length f ≡ k → ((n : ℕ) → value F (p ∷ R) f n ≡ o)
      → AllByRecursion (λ g. ¬ (g ≡ f)) fs → AllByRecursion (λ g. length g ≡ k) fs → AllByRecursion (λ g. (n : ℕ) → value F (p ∷ R) g n ≡ o) fs
      → AllByRecursion (λ g. (n : ℕ) → value F (quotient f R) g n ≡ o) fs
  quotients p R f k [] e z d l h = tt
  quotients p R f k (g ∷ fs) e z d l h =
      (root_quotient p R f g (l.0 ∙ sym e) d.0 z h.0, quotients p R f k fs e z d.1 l.1 h.1)

  pub many_roots : (fs : List (List E)) (k : ℕ) (R : List (ℕ → E)) → Apart fs → AllByRecursion (λ g. length g ≡ k) fs
      → AllByRecursion (λ g. (n : ℕ) → value F R g n ≡ o) fs → length R ≤ length fs → None R
  many_roots fs k [] d l h u = tt
  many_roots [] k (p ∷ R) d l h u = absurd (omega arith)
  many_roots (f ∷ fs) k (p ∷ R) d l h u =
      let rest : None R
      = quotient_none f R
      (many_roots fs k (quotient f R) d.1 l.1 (quotients p R f k fs l.0 h.0 d.0 l.1 h.1)
      (omega (arith, quotient-length f R))) in
      (first_none p R f rest h.0, rest)
