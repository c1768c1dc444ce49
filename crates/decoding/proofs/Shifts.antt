-- The steps by which a polynomial in y is shifted in place.
-- Assumes nothing.
use Rattle.std.proofs.Common.{◌≡◌, ℕ, zero, suc, ◌+◌, ◌-◌, ◌<◌, ◌≤◌, List, [], ◌∷◌, ◌++◌, length, get_or, take, drop, sym, refl, ap, ◌∙◌, subst, add-one, arith}
use native.Mathlib.Decide.{ℕ_discrete}
use Rattle.std.proofs.ByRecursion.{All-get_or, All-drop}
use Rattle.std.proofs.lemmas.List.{ext_get_or, length-take-le, append_assoc, drop_at, take_more, take_rest}
use Rattle.field.specs.Meaning.{FieldMeaning, FieldLaws}
use Rattle.bivariate.specs.Bivariate.{Elements}
use Rattle.bivariate.specs.Grid.{times_linear, shifted}
use Rattle.bivariate.proofs.Embedding.{shifted-elements}

module _ (m : FieldMeaning) (c : ℕ) where
  pub linear-length : (p : ℕ) (T : List ℕ) → length (times_linear m c p T) ≡ suc (length T)
  linear-length p [] = refl
  linear-length p (t ∷ T) = ap suc (linear-length t T)

  linear_at : (p : ℕ) (T : List ℕ) (i : ℕ) → i < length T → get_or (times_linear m c p T) i 0 ≡ m.sum (get_or (p ∷ T) i 0) (m.product c (get_or T i 0))
  linear_at p [] i h = absurd (omega arith)
  linear_at p (t ∷ T) zero h = refl
  linear_at p (t ∷ T) (suc i) h = linear_at t T i (omega arith)

  linear_last : (p : ℕ) (T : List ℕ) → get_or (times_linear m c p T) (length T) 0 ≡ get_or (p ∷ T) (length T) 0
  linear_last p [] = refl
  linear_last p (t ∷ T) = linear_last t T

  -- the places below i are done, and the others as they were
  abbrev pub LinearUpTo : List ℕ → ℕ → List ℕ → Type 0
  LinearUpTo p i now =
      (length now ≡ length p)
      × ((k : ℕ) → k < i → get_or now k 0 ≡ m.sum (get_or p k 0) (m.product c (get_or p (k + 1) 0)))
      × ((k : ℕ) → i ≤ k → get_or now k 0 ≡ get_or p k 0)

  pub linear-all : (p now : List ℕ) (i : ℕ) → 0 < length p → i ≡ length p - 1 → LinearUpTo p i now → now ≡ times_linear m c (get_or p 0 0) (drop 1 p)
  linear-all [] now i h end done = absurd (omega arith)
  linear-all (x ∷ T) now i h end done =
      ext_get_or 0 now (times_linear m c x T) (done.0 ∙ sym (linear-length x T)) each
    where
      at_place : (k : ℕ) → Dec (k ≡ length T) → k < suc (length T) → get_or now k 0 ≡ get_or (times_linear m c x T) k 0
      at_place k (yes e) l =
          ap (λ (n : ℕ). get_or now n 0) e ∙ done.2 (length T) (omega arith) ∙ sym (linear_last x T)
          ∙ ap (λ (n : ℕ). get_or (times_linear m c x T) n 0) (sym e)
      at_place k (no n) l =
          let k< : k < length T = omega arith in
          done.1 k (omega arith)
          ∙ ap (λ (j : ℕ). m.sum (get_or (x ∷ T) k 0) (m.product c (get_or (x ∷ T) j 0))) (add-one k)
          ∙ sym (linear_at x T k k<)

      each : (k : ℕ) → k < length now → get_or now k 0 ≡ get_or (times_linear m c x T) k 0
      each k l = at_place k (ℕ_discrete k (length T)) (omega (arith, done.0))

  -- ---- the shift, from the top coefficient down

  pub shifted-length : (P : List ℕ) → length (shifted m c P) ≡ length P
  shifted-length [] = refl
  shifted-length (p ∷ P) = linear-length p (shifted m c P) ∙ ap suc (shifted-length P)

  module _ (laws : FieldLaws m) (element : c < m.size) where
    module _ (P now : List ℕ) (i : ℕ) (elements : Elements m P) (above : 0 < i) (within : i ≤ length P)
        (is : now ≡ take i P ++ shifted m c (drop i P)) where
      split : now ≡ take (i - 1) P ++ (get_or P (i - 1) 0 ∷ shifted m c (drop i P))
      split =
          let e : i ≡ i - 1 + 1 = omega arith in
          is ∙ ap (λ (u : List ℕ). u ++ shifted m c (drop i P)) (ap (λ (n : ℕ). take n P) e ∙ take_more P (i - 1) 0 (omega arith))
          ∙ append_assoc (take (i - 1) P) (get_or P (i - 1) 0 ∷ []) (shifted m c (drop i P))

      pub rest_is : take (length now - (i - 1)) (drop (i - 1) now) ≡ get_or P (i - 1) 0 ∷ shifted m c (drop i P)
      rest_is =
          take_rest now (i - 1) ∙ ap (drop (i - 1)) split
          ∙ drop_at (take (i - 1) P) _ (i - 1) (length-take-le (i - 1) P (omega arith))

      pub rest_elements : Elements m (take (length now - (i - 1)) (drop (i - 1) now))
      rest_elements =
          subst (Elements m) (sym rest_is)
          (All-get_or (λ x. x < m.size) P (i - 1) 0 (omega arith) elements, shifted-elements m laws c (drop i P) element (All-drop (λ x. x < m.size) i P elements))
