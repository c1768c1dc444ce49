-- Two different polynomials with k coefficients agree at fewer than k distinct points, over any abstract field.
-- Assumes nothing.
use Rattle.std.proofs.Common.{◌≡◌, ℕ, zero, suc, ◌<◌, ◌≤◌, List, [], ◌∷◌, ◌++◌, length, sym, refl, ap, ◌∙◌, ap₂, arith}
use native.Mathlib.Decide.{dec_le}
use Rattle.field.proofs.Abstract.{AbstractField, ring, add_cancel, mul_cancel, add_assoc, add_comm, add-zero, neg_add, zero-add}

module _ (F : AbstractField) where
  open F use {E, o, i, ◌⊕◌, ◌⊗◌, neg}

  infixl 65 ◌⊕◌
  infixl 70 ◌⊗◌
  abbrev pub eval : List E → E → E
  eval [] x = o
  eval (c ∷ cs) x = c ⊕ x ⊗ eval cs x

  -- the quotient of c ∷ cs by x - r, whatever c is
  abbrev pub quotient : E → List E → List E
  quotient r [] = []
  quotient r (d ∷ ds) = eval (d ∷ ds) r ∷ quotient r ds

  quotient-length : (r : E) (cs : List E) → length (quotient r cs) ≡ length cs
  quotient-length r [] = refl
  quotient-length r (d ∷ ds) = ap suc (quotient-length r ds)

  division_step : (c x r e q : E) (u : E) → u ⊕ r ⊗ q ≡ x ⊗ q ⊕ e → c ⊕ x ⊗ u ⊕ r ⊗ (e ⊕ x ⊗ q) ≡ x ⊗ (e ⊕ x ⊗ q) ⊕ (c ⊕ r ⊗ e)
  division_step c x r e q u h =
      let left : c ⊕ x ⊗ u ⊕ r ⊗ (e ⊕ x ⊗ q) ≡ c ⊕ (x ⊗ (u ⊕ r ⊗ q) ⊕ r ⊗ e) = simp ring in
      left ∙ ap (λ v. c ⊕ (x ⊗ v ⊕ r ⊗ e)) h ∙ simp ring

  -- p(x) = (x - r)·q(x) + p(r), written without a difference: p(x) + r·q(x) = x·q(x) + p(r)
  pub division : (c : E) (cs : List E) (x r : E)
      → eval (c ∷ cs) x ⊕ r ⊗ eval (quotient r cs) x ≡ x ⊗ eval (quotient r cs) x ⊕ eval (c ∷ cs) r
  division c [] x r = simp ring
  division c (d ∷ ds) x r = division_step c x r (eval (d ∷ ds) r) (eval (quotient r ds) x) (eval (d ∷ ds) x) (division d ds x r)

  -- ---- as many points as coefficients determine a polynomial

  -- quotients by x - r agree at x other than r where the polynomials agree at r and at x
  tied : (x r u v a b : E) → ¬ (x ≡ r) → u ⊕ r ⊗ a ≡ x ⊗ a ⊕ v → u ⊕ r ⊗ b ≡ x ⊗ b ⊕ v → a ≡ b
  tied x r u v a b h p q = mul_cancel F d a b apart (add_cancel F v (d ⊗ a) (d ⊗ b) (sym (step a p) ∙ step b q))
    where
      d : E
      d = x ⊕ neg r

      back : d ⊕ r ≡ x
      back = add_assoc F x (neg r) r ∙ ap (λ y. x ⊕ y) (neg_add F r) ∙ add-zero F x

      apart : ¬ (d ≡ o)
      apart e = h (sym back ∙ ap (λ y. y ⊕ r) e ∙ zero-add F r)

      step : (c : E) → u ⊕ r ⊗ c ≡ x ⊗ c ⊕ v → u ≡ v ⊕ d ⊗ c
      step c e =
          let g : (d ⊕ r) ⊗ c ⊕ v ≡ r ⊗ c ⊕ (v ⊕ d ⊗ c) = simp ring in
          add_cancel F (r ⊗ c) u (v ⊕ d ⊗ c) (add_comm F (r ⊗ c) u ∙ e ∙ ap (λ y. y ⊗ c ⊕ v) (sym back) ∙ g)

  head_same : (c d x u : E) → c ⊕ x ⊗ u ≡ d ⊕ x ⊗ u → c ≡ d
  head_same c d x u e = add_cancel F (x ⊗ u) c d (add_comm F (x ⊗ u) c ∙ e ∙ add_comm F d (x ⊗ u))

  heads : (c d r : E) (cs ds : List E) → cs ≡ ds → eval (c ∷ cs) r ≡ eval (d ∷ ds) r → c ∷ cs ≡ d ∷ ds
  heads c d r cs ds p e = ap₂ ◌∷◌ (head_same c d r (eval ds r) (ap (λ l. c ⊕ r ⊗ eval l r) (sym p) ∙ e)) p

  quotient_same : (r : E) (cs ds : List E) → quotient r cs ≡ quotient r ds → cs ≡ ds
  quotient_same r [] [] e = refl
  quotient_same r [] (d ∷ ds) e = let z : ◌≡◌ {A = ℕ} 0 1 = cc in absurd (omega arith)
  quotient_same r (c ∷ cs) [] e = let z : ◌≡◌ {A = ℕ} 0 1 = cc in absurd (omega arith)
  quotient_same r (c ∷ cs) (d ∷ ds) e =
      let t : quotient r cs ≡ quotient r ds = cc in
      let h : eval (c ∷ cs) r ≡ eval (d ∷ ds) r = cc in
      heads c d r cs ds (quotient_same r cs ds t) h

  abbrev pub Each : (E → Type 0) → List E → Type 0
  Each P [] = Unit {0}
  Each P (x ∷ xs) = P x × Each P xs

  abbrev pub Distinct : List E → Type 0
  Distinct [] = Unit {0}
  Distinct (x ∷ xs) = Each (λ y. ¬ (y ≡ x)) xs × Distinct xs

  quotients_agree : (r c d : E) (cs ds rs : List E) → eval (c ∷ cs) r ≡ eval (d ∷ ds) r → Each (λ y. ¬ (y ≡ r)) rs
      → Each (λ x. eval (c ∷ cs) x ≡ eval (d ∷ ds) x) rs → Each (λ x. eval (quotient r cs) x ≡ eval (quotient r ds) x) rs
  quotients_agree r c d cs ds [] e n h = tt
  quotients_agree r c d cs ds (x ∷ xs) e n h = (
    tied x r (eval (c ∷ cs) x) (eval (c ∷ cs) r) (eval (quotient r cs) x) (eval (quotient r ds) x) n.0
        (division c cs x r)
        (ap (λ u. u ⊕ r ⊗ eval (quotient r ds) x) h.0 ∙ division d ds x r ∙ ap (λ v. x ⊗ eval (quotient r ds) x ⊕ v) (sym e)),
    quotients_agree r c d cs ds xs e n.1 h.1,
  )

  pub determined : (xs : List E) → Distinct xs → (f g : List E) → length f ≡ length g → length f ≤ length xs
      → Each (λ x. eval f x ≡ eval g x) xs → f ≡ g
  determined xs n [] [] e l h = refl
  determined xs n [] (d ∷ ds) e l h = absurd (omega arith)
  determined xs n (c ∷ cs) [] e l h = absurd (omega arith)
  determined [] n (c ∷ cs) (d ∷ ds) e l h = absurd (omega arith)
  determined (r ∷ rs) n (c ∷ cs) (d ∷ ds) e l h =
      heads c d r cs ds
      (quotient_same r cs ds
      (determined rs n.1 (quotient r cs) (quotient r ds) (omega (arith, quotient-length r cs, quotient-length r ds)) (omega (arith, quotient-length r cs))
      (quotients_agree r c d cs ds rs h.0 n.0 h.1)))
      h.0

  -- ---- the points at which two polynomials agree

  abbrev pub keep_if : {P : Type 0} → Dec P → E → List E → List E
  keep_if (yes p) x xs = x ∷ xs
  keep_if (no n) x xs = xs

  abbrev pub common : List E → List E → List E → List E
  common f g [] = []
  common f g (x ∷ xs) = keep_if (F.same (eval f x) (eval g x)) x (common f g xs)

  module _ (f g : List E) where
    -- what holds of the points holds of those that are kept, and agreement holds of all of these
    each_kept : (P : E → Type 0) (x : E) (d : Dec (eval f x ≡ eval g x)) (ys : List E) → (eval f x ≡ eval g x → P x) → Each P ys → Each P (keep_if d x ys)
    each_kept P x (yes p) ys h t = (h p, t)
    each_kept P x (no n) ys h t = t

    each_common : (P : E → Type 0) (xs : List E) → Each (λ x. eval f x ≡ eval g x → P x) xs → Each P (common f g xs)
    each_common P [] h = tt
    each_common P (x ∷ xs) h = each_kept P x (F.same (eval f x) (eval g x)) (common f g xs) h.0 (each_common P xs h.1)

    always : (Q P : E → Type 0) (xs : List E) → ((x : E) → Q x → P x) → Each Q xs → Each P xs
    always Q P [] h t = tt
    always Q P (x ∷ xs) h t = (h x t.0, always Q P xs h t.1)

    distinct_kept : (x : E) (d : Dec (eval f x ≡ eval g x)) (ys : List E)
        → Each (λ y. ¬ (y ≡ x)) ys → Distinct ys → Distinct (keep_if d x ys)
    distinct_kept x (yes p) ys h t = (h, t)
    distinct_kept x (no n) ys h t = t

    distinct_common : (xs : List E) → Distinct xs → Distinct (common f g xs)
    distinct_common [] h = tt
    distinct_common (x ∷ xs) h =
        distinct_kept x (F.same (eval f x) (eval g x)) (common f g xs)
        (each_common (λ y. ¬ (y ≡ x)) xs (always (λ y. ¬ (y ≡ x)) (λ y. eval f y ≡ eval g y → ¬ (y ≡ x)) xs (λ y n _. n) h.0))
        (distinct_common xs h.1)

    agree_common : (xs : List E) → Each (λ y. eval f y ≡ eval g y) (common f g xs)
    agree_common xs = each_common (λ y. eval f y ≡ eval g y) xs (trivial xs)
      where
        trivial : (xs : List E) → Each (λ y. eval f y ≡ eval g y → eval f y ≡ eval g y) xs
        trivial [] = tt
        trivial (x ∷ xs) = ((λ e. e), trivial xs)

    pub few_roots : length f ≡ length g → ¬ (f ≡ g) → (xs : List E) → Distinct xs → length (common f g xs) < length f
    few_roots e n xs h = cases (dec_le (length f) (length (common f g xs)))
      where
        cases : Dec (length f ≤ length (common f g xs)) → length (common f g xs) < length f
        cases (yes l) = absurd (n (determined (common f g xs) (distinct_common xs h) f g e l (agree_common xs)))
        cases (no l) = omega arith

  -- ---- one coefficient more at the top

  abbrev pub power : E → ℕ → E
  power x zero = i
  power x (suc n) = x ⊗ power x n

  top_step : (a x u p c : E) → a ⊕ x ⊗ (u ⊕ p ⊗ c) ≡ a ⊕ x ⊗ u ⊕ x ⊗ p ⊗ c
  top_step a x u p c = simp ring

  eval_top : (f : List E) (c x : E) → eval (f ++ (c ∷ [])) x ≡ eval f x ⊕ power x (length f) ⊗ c
  eval_top [] c x = simp ring
  eval_top (a ∷ f) c x = ap (λ u. a ⊕ x ⊗ u) (eval_top f c x) ∙ top_step a x (eval f x) (power x (length f)) c

  -- under an equal top coefficient the lower ones have equal values
  pub drop_top : (f g : List E) (c x : E) → length f ≡ length g → eval (f ++ (c ∷ [])) x ≡ eval (g ++ (c ∷ [])) x → eval f x ≡ eval g x
  drop_top f g c x e h =
      add_cancel F (power x (length f) ⊗ c) (eval f x) (eval g x)
      (add_comm F _ (eval f x) ∙ sym (eval_top f c x) ∙ h ∙ eval_top g c x
      ∙ ap (λ n. eval g x ⊕ power x n ⊗ c) (sym e) ∙ add_comm F (eval g x) _)
