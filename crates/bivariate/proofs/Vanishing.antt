-- Over an abstract field: a polynomial in x and y of weighted degree below d that is 0 on the graph of f at d points is 0 at y = f.
-- Assumes nothing.
use Rattle.std.proofs.Common.{◌≡◌, ℕ, zero, suc, ◌+◌, ◌-◌, ◌*◌, ◌≤◌, List, [], ◌∷◌, length, get_or, take, sym, refl, ap, ◌∙◌, ap₂, arith}
use mathlib.Core.Path.{fun_ext}
use Rattle.std.proofs.lemmas.List.{length-take}
use Rattle.field.proofs.Abstract.{AbstractField, ring, add-zero, zero-add, mul-zero, zero-mul}
use Rattle.field.proofs.Roots.{eval, Each, Distinct, determined}
use Rattle.bivariate.proofs.Sequences.{co, value, plus, scale, times, compose, sequences, co-scale, co-compose}

module _ (F : AbstractField) where
  open F use {E, o, i, ◌⊕◌, ◌⊗◌}

  infixl 65 ◌⊕◌
  infixl 70 ◌⊗◌
  -- Q(x, y)
  abbrev pub at_point : List (List E) → E → E → E
  at_point [] x y = o
  at_point (p ∷ Q) x y = eval F p x ⊕ y ⊗ at_point Q x y

  -- ---- values

  add_step : (a b x u v : E) → a ⊕ b ⊕ x ⊗ (u ⊕ v) ≡ a ⊕ x ⊗ u ⊕ (b ⊕ x ⊗ v)
  add_step a b x u v = simp ring

  eval-plus : (p q : List E) (x : E) → eval F (plus F p q) x ≡ eval F p x ⊕ eval F q x
  eval-plus [] q x = sym (zero-add F (eval F q x))
  eval-plus (a ∷ p) [] x = sym (add-zero F (eval F (a ∷ p) x))
  eval-plus (a ∷ p) (b ∷ q) x = ap (λ y. a ⊕ b ⊕ x ⊗ y) (eval-plus p q x) ∙ add_step a b x (eval F p x) (eval F q x)

  scale_step : (c a x u : E) → c ⊗ a ⊕ x ⊗ (c ⊗ u) ≡ c ⊗ (a ⊕ x ⊗ u)
  scale_step c a x u = simp ring

  eval-scale : (c : E) (p : List E) (x : E) → eval F (scale F c p) x ≡ c ⊗ eval F p x
  eval-scale c [] x = sym (mul-zero F c)
  eval-scale c (a ∷ p) x = ap (λ y. c ⊗ a ⊕ x ⊗ y) (eval-scale c p x) ∙ scale_step c a x (eval F p x)

  times_step : (c x u v : E) → c ⊗ v ⊕ (o ⊕ x ⊗ (u ⊗ v)) ≡ (c ⊕ x ⊗ u) ⊗ v
  times_step c x u v = simp ring

  eval-times : (f q : List E) (x : E) → eval F (times F f q) x ≡ eval F f x ⊗ eval F q x
  eval-times f [] x = sym (mul-zero F (eval F f x))
  eval-times [] (b ∷ q) x = sym (zero-mul F (eval F (b ∷ q) x))
  eval-times (c ∷ f) (b ∷ q) x =
      eval-plus (scale F c (b ∷ q)) (o ∷ times F f (b ∷ q)) x
      ∙ ap₂ (λ y z. y ⊕ (o ⊕ x ⊗ z)) (eval-scale c (b ∷ q) x) (eval-times f (b ∷ q) x)
      ∙ times_step c x (eval F f x) (eval F (b ∷ q) x)

  eval-compose : (Q : List (List E)) (f : List E) (x : E) → eval F (compose F Q f) x ≡ at_point Q x (eval F f x)
  eval-compose [] f x = refl
  eval-compose (p ∷ Q) f x =
      eval-plus p (times F f (compose F Q f)) x
      ∙ ap (λ y. eval F p x ⊕ y) (eval-times f (compose F Q f) x ∙ ap (λ y. eval F f x ⊗ y) (eval-compose Q f x))

  -- ---- lengths

  plus-length : (p q : List E) (n : ℕ) → length p ≤ n → length q ≤ n → length (plus F p q) ≤ n
  plus-length [] q n h k = k
  plus-length (a ∷ p) [] n h k = h
  plus-length (a ∷ p) (b ∷ q) zero h k = absurd (omega arith)
  plus-length (a ∷ p) (b ∷ q) (suc n) h k = let r : length (plus F p q) ≤ n = plus-length p q n (omega arith) (omega arith) in omega arith

  scale-length : (c : E) (p : List E) → length (scale F c p) ≡ length p
  scale-length c [] = refl
  scale-length c (a ∷ p) = ap suc (scale-length c p)

  times-length : (f : List E) (b : E) (q : List E) → length (times F f (b ∷ q)) ≤ length f + length q
  times-length [] b q = omega arith
  times-length (c ∷ f) b q =
      plus-length (scale F c (b ∷ q)) (o ∷ times F f (b ∷ q)) (suc (length f) + length q)
      (omega (arith, scale-length c q)) (omega (arith, times-length f b q))

  -- row j has at most d - a·j coefficients
  abbrev pub Fits : ℕ → ℕ → List (List E) → Type 0
  Fits a d [] = Unit {0}
  Fits a d (p ∷ Q) = (length p ≤ d) × Fits a (d - a) Q

  times_fits : (f q : List E) (a d : ℕ) → length f ≤ suc a → length q ≤ d - a → length (times F f q) ≤ d
  times_fits f [] a d h k = omega arith
  times_fits f (b ∷ q) a d h k = omega (arith, times-length f b q)

  compose-length : (Q : List (List E)) (f : List E) (a d : ℕ) → length f ≤ suc a → Fits a d Q → length (compose F Q f) ≤ d
  compose-length [] f a d h k = omega arith
  compose-length (p ∷ Q) f a d h k =
      plus-length p (times F f (compose F Q f)) d k.0 (times_fits f (compose F Q f) a d h (compose-length Q f a (d - a) h k.1))

  -- ---- few coefficients and many zeros

  zero_values : (Q : List (List E)) (f xs : List E) → Each F (λ x. at_point Q x (eval F f x) ≡ o) xs
      → Each F (λ x. eval F (compose F Q f) x ≡ eval F (scale F o (compose F Q f)) x) xs
  zero_values Q f [] h = tt
  zero_values Q f (x ∷ xs) h = (
    eval-compose Q f x ∙ h.0 ∙ sym (eval-scale o (compose F Q f) x ∙ zero-mul F (eval F (compose F Q f) x)),
    zero_values Q f xs h.1,
  )

  vanish_fitting : (Q : List (List E)) (f xs : List E) (a d : ℕ) → length f ≤ suc a → Fits a d Q → Distinct F xs → d ≤ length xs
      → Each F (λ x. at_point Q x (eval F f x) ≡ o) xs → (n : ℕ) → value F (sequences F Q) f n ≡ o
  vanish_fitting Q f xs a d h k u l z n =
      let e : compose F Q f ≡ scale F o (compose F Q f)
      = determined F xs u (compose F Q f) (scale F o (compose F Q f)) (sym (scale-length o (compose F Q f)))
      (omega (arith, compose-length Q f a d h k)) (zero_values Q f xs z) in
      sym (co-compose F Q f n) ∙ ap (λ p. co F p n) e ∙ co-scale F o (compose F Q f) n ∙ zero-mul F (co F (compose F Q f) n)

  -- ---- a row without the coefficients at its end that are 0

  eval_none : (p : List E) (x : E) → ((n : ℕ) → co F p n ≡ o) → o ≡ eval F p x
  eval_none [] x h = refl
  eval_none (a ∷ p) x h =
      sym (ap₂ (λ y z. y ⊕ x ⊗ z) (h 0) (sym (eval_none p x (λ n. h (suc n)))) ∙ ap (λ y. o ⊕ y) (mul-zero F x) ∙ add-zero F o)

  eval-take : (d : ℕ) (p : List E) (x : E) → ((n : ℕ) → d ≤ n → co F p n ≡ o) → eval F (take d p) x ≡ eval F p x
  eval-take zero p x h = eval_none p x (λ n. h n (omega arith))
  eval-take (suc d) [] x h = refl
  eval-take (suc d) (a ∷ p) x h = ap (λ y. a ⊕ x ⊗ y) (eval-take d p x (λ n l. h (suc n) (omega arith)))

  co-take : (d : ℕ) (p : List E) → ((n : ℕ) → d ≤ n → co F p n ≡ o) → (n : ℕ) → co F (take d p) n ≡ co F p n
  co-take zero p h n = sym (h n (omega arith))
  co-take (suc d) [] h n = refl
  co-take (suc d) (a ∷ p) h zero = refl
  co-take (suc d) (a ∷ p) h (suc n) = co-take d p (λ k l. h (suc k) (omega arith)) n

  -- the terms have g + a·j < d
  abbrev pub Light : ℕ → ℕ → List (List E) → Type 0
  Light a d Q = (j n : ℕ) → d ≤ n + a * j → co F (get_or Q j []) n ≡ o

  abbrev cut : ℕ → ℕ → List (List E) → List (List E)
  cut a d [] = []
  cut a d (p ∷ Q) = take d p ∷ cut a (d - a) Q

  light_first : (a d : ℕ) (p : List E) (Q : List (List E)) → Light a d (p ∷ Q) → (n : ℕ) → d ≤ n → co F p n ≡ o
  light_first a d p Q h n l = h 0 n (omega arith)

  light_rest : (a d : ℕ) (p : List E) (Q : List (List E)) → Light a d (p ∷ Q) → Light a (d - a) Q
  light_rest a d p Q h j n l = h (suc j) n (omega arith)

  cut_fits : (a d : ℕ) (Q : List (List E)) → Fits a d (cut a d Q)
  cut_fits a d [] = tt
  cut_fits a d (p ∷ Q) = (omega (arith, length-take d p), cut_fits a (d - a) Q)

  cut-sequences : (a d : ℕ) (Q : List (List E)) → Light a d Q → sequences F (cut a d Q) ≡ sequences F Q
  cut-sequences a d [] h = refl
  cut-sequences a d (p ∷ Q) h =
      ap₂ ◌∷◌ (fun_ext (co-take d p (light_first a d p Q h))) (cut-sequences a (d - a) Q (light_rest a d p Q h))

  cut_point : (a d : ℕ) (Q : List (List E)) (x y : E) → Light a d Q → at_point (cut a d Q) x y ≡ at_point Q x y
  cut_point a d [] x y h = refl
  cut_point a d (p ∷ Q) x y h =
      ap₂ (λ u v. u ⊕ y ⊗ v) (eval-take d p x (light_first a d p Q h)) (cut_point a (d - a) Q x y (light_rest a d p Q h))

  cut-points : (a d : ℕ) (Q : List (List E)) (f xs : List E) → Light a d Q → Each F (λ x. at_point Q x (eval F f x) ≡ o) xs
      → Each F (λ x. at_point (cut a d Q) x (eval F f x) ≡ o) xs
  cut-points a d Q f [] h z = tt
  cut-points a d Q f (x ∷ xs) h z = (cut_point a d Q x (eval F f x) h ∙ z.0, cut-points a d Q f xs h z.1)

  pub vanish : (Q : List (List E)) (f xs : List E) (a d : ℕ) → length f ≤ suc a → Light a d Q → Distinct F xs → d ≤ length xs
      → Each F (λ x. at_point Q x (eval F f x) ≡ o) xs → (n : ℕ) → value F (sequences F Q) f n ≡ o
  vanish Q f xs a d h k u l z n =
      ap (λ R. value F R f n) (sym (cut-sequences a d Q k))
      ∙ vanish_fitting (cut a d Q) f xs a d h (cut_fits a d Q) u l (cut-points a d Q f xs k z) n
