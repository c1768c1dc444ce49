-- Polynomials over an abstract field act on sequences of elements, x by a shift; what a polynomial in x and y becomes where y is given, as a sequence of coefficients.
-- Assumes nothing.
use Rattle.std.proofs.Common.{◌≡◌, ℕ, zero, suc, List, [], ◌∷◌, sym, refl, ap, ◌∙◌, ap₂}
use mathlib.Core.Path.{fun_ext}
use Rattle.field.proofs.Abstract.{AbstractField, ring, add-zero, zero-add, mul-zero}

module _ (F : AbstractField) where
  open F use {E, o, i, ◌⊕◌, ◌⊗◌}

  infixl 65 ◌⊕◌
  infixl 70 ◌⊗◌
  -- the coefficients, and o for ever
  abbrev pub co : List E → ℕ → E
  co [] n = o
  co (c ∷ p) zero = c
  co (c ∷ p) (suc n) = co p n

  -- x times s
  abbrev pub up : (ℕ → E) → ℕ → E
  up s zero = o
  up s (suc n) = s n

  -- f times s
  abbrev pub by : List E → (ℕ → E) → ℕ → E
  by [] s n = o
  by (c ∷ f) s n = c ⊗ s n ⊕ up (by f s) n

  -- R at y = f, with R the list of what stands before the powers of y
  abbrev pub value : List (ℕ → E) → List E → ℕ → E
  value [] f n = o
  value (s ∷ R) f n = s n ⊕ by f (value R f) n

  -- ---- a product with a list is linear

  pub up-add : (s t : ℕ → E) (n : ℕ) → up (λ k. s k ⊕ t k) n ≡ up s n ⊕ up t n
  up-add s t zero = sym (add-zero F o)
  up-add s t (suc n) = refl

  up-scale : (c : E) (s : ℕ → E) (n : ℕ) → up (λ k. c ⊗ s k) n ≡ c ⊗ up s n
  up-scale c s zero = sym (mul-zero F c)
  up-scale c s (suc n) = refl

  pub up-zero : (n : ℕ) → up (λ k. o) n ≡ o
  up-zero zero = refl
  up-zero (suc n) = refl

  pub under : {s t : ℕ → E} → ((n : ℕ) → s n ≡ t n) → (n : ℕ) → up s n ≡ up t n
  under h n = ap (λ s. up s n) (fun_ext h)

  ring1 : (c s t u v : E) → c ⊗ (s ⊕ t) ⊕ (u ⊕ v) ≡ c ⊗ s ⊕ u ⊕ (c ⊗ t ⊕ v)
  ring1 c s t u v = simp ring

  ring2 : (c d s u : E) → d ⊗ (c ⊗ s) ⊕ c ⊗ u ≡ c ⊗ (d ⊗ s ⊕ u)
  ring2 c d s u = simp ring

  ring3 : (c : E) → c ⊗ o ⊕ o ≡ o
  ring3 c = simp ring

  pub by-add : (f : List E) (s t : ℕ → E) (n : ℕ) → by f (λ k. s k ⊕ t k) n ≡ by f s n ⊕ by f t n
  by-add [] s t n = sym (add-zero F o)
  by-add (c ∷ f) s t n =
      ap (λ y. c ⊗ (s n ⊕ t n) ⊕ y) (under (by-add f s t) n ∙ up-add (by f s) (by f t) n)
      ∙ ring1 c (s n) (t n) (up (by f s) n) (up (by f t) n)

  pub by-scale : (f : List E) (c : E) (s : ℕ → E) (n : ℕ) → by f (λ k. c ⊗ s k) n ≡ c ⊗ by f s n
  by-scale [] c s n = sym (mul-zero F c)
  by-scale (d ∷ f) c s n =
      ap (λ y. d ⊗ (c ⊗ s n) ⊕ y) (under (by-scale f c s) n ∙ up-scale c (by f s) n) ∙ ring2 c d (s n) (up (by f s) n)

  pub by_zero : (f : List E) (n : ℕ) → by f (λ k. o) n ≡ o
  by_zero [] n = refl
  by_zero (c ∷ f) n = ap (λ y. c ⊗ o ⊕ y) (under (by_zero f) n ∙ up-zero n) ∙ ring3 c

  pub by-up : (f : List E) (s : ℕ → E) (n : ℕ) → by f (up s) n ≡ up (by f s) n
  by-up [] s n = sym (up-zero n)
  by-up (c ∷ f) s zero = ring3 c
  by-up (c ∷ f) s (suc n) = ap (λ y. c ⊗ s n ⊕ y) (by-up f s n)

  pub by_same : (f : List E) {s t : ℕ → E} → ((n : ℕ) → s n ≡ t n) → (n : ℕ) → by f s n ≡ by f t n
  by_same f h n = ap (λ s. by f s n) (fun_ext h)

  pub by-by : (f g : List E) (s : ℕ → E) (n : ℕ) → by f (by g s) n ≡ by g (by f s) n
  by-by [] g s n = sym (by_zero g n)
  by-by (c ∷ f) g s n =
      ap (λ y. c ⊗ by g s n ⊕ y) (under (by-by f g s) n)
      ∙ sym (by-add g (λ k. c ⊗ s k) (up (by f s)) n ∙ ap₂ ◌⊕◌ (by-scale g c s n) (by-up g (by f s) n))

  -- ---- sums and products of lists

  abbrev pub plus : List E → List E → List E
  plus [] q = q
  plus (a ∷ p) [] = a ∷ p
  plus (a ∷ p) (b ∷ q) = (a ⊕ b) ∷ plus p q

  abbrev pub scale : E → List E → List E
  scale c [] = []
  scale c (a ∷ p) = (c ⊗ a) ∷ scale c p

  abbrev pub times : List E → List E → List E
  times f [] = []
  times [] (b ∷ q) = []
  times (c ∷ f) (b ∷ q) = plus (scale c (b ∷ q)) (o ∷ times f (b ∷ q))

  abbrev pub compose : List (List E) → List E → List E
  compose [] f = []
  compose (p ∷ Q) f = plus p (times f (compose Q f))

  pub co-plus : (p q : List E) (n : ℕ) → co (plus p q) n ≡ co p n ⊕ co q n
  co-plus [] q n = sym (zero-add F (co q n))
  co-plus (a ∷ p) [] n = sym (add-zero F (co (a ∷ p) n))
  co-plus (a ∷ p) (b ∷ q) zero = refl
  co-plus (a ∷ p) (b ∷ q) (suc n) = co-plus p q n

  pub co-scale : (c : E) (p : List E) (n : ℕ) → co (scale c p) n ≡ c ⊗ co p n
  co-scale c [] n = sym (mul-zero F c)
  co-scale c (a ∷ p) zero = refl
  co-scale c (a ∷ p) (suc n) = co-scale c p n

  co-up : (p : List E) (n : ℕ) → co (o ∷ p) n ≡ up (co p) n
  co-up p zero = refl
  co-up p (suc n) = refl

  co-times : (f q : List E) (n : ℕ) → co (times f q) n ≡ by f (co q) n
  co-times f [] n = sym (by_zero f n)
  co-times [] (b ∷ q) n = refl
  co-times (c ∷ f) (b ∷ q) n =
      co-plus (scale c (b ∷ q)) (o ∷ times f (b ∷ q)) n
      ∙ ap₂ ◌⊕◌ (co-scale c (b ∷ q) n) (co-up (times f (b ∷ q)) n ∙ under (co-times f (b ∷ q)) n)

  abbrev pub sequences : List (List E) → List (ℕ → E)
  sequences [] = []
  sequences (p ∷ Q) = co p ∷ sequences Q

  pub co-compose : (Q : List (List E)) (f : List E) (n : ℕ) → co (compose Q f) n ≡ value (sequences Q) f n
  co-compose [] f n = refl
  co-compose (p ∷ Q) f n =
      co-plus p (times f (compose Q f)) n ∙ ap (λ y. co p n ⊕ y) (co-times f (compose Q f) n ∙ by_same f (co-compose Q f) n)
