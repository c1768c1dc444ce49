-- Over an abstract field: a polynomial in x and y, times a power of x, at y + c, at x·y, and what its roots in y are.
-- Assumes nothing.
use Rattle.std.proofs.Common.{◌≡◌, ℕ, zero, suc, ◌+◌, ◌-◌, ◌<◌, ◌≤◌, ◌⊎◌, ◌↔◌, List, [], ◌∷◌, length, sym, refl, ap, ◌∙◌, ap₂, inl, inr, arith}
use mathlib.Core.Path.{fun_ext}
use Rattle.std.proofs.lemmas.Bool.{cases_lt}
use Rattle.field.proofs.Abstract.{AbstractField, ring, add-zero}
use Rattle.field.proofs.Roots.{eval}
use Rattle.bivariate.proofs.Sequences.{co, up, by, value, up-zero, under, up-add, by-add, by-scale, by-up, by_same}

module _ (F : AbstractField) where
  open F use {E, o, i, ◌⊕◌, ◌⊗◌}

  infixl 65 ◌⊕◌
  infixl 70 ◌⊗◌
  -- w rows, from a function of the row's number
  abbrev pub rows : ℕ → (ℕ → ℕ → E) → List (ℕ → E)
  rows zero S = []
  rows (suc w) S = S 0 ∷ rows w (λ j. S (suc j))

  pub rows_same : (w : ℕ) (S T : ℕ → ℕ → E) → ((j n : ℕ) → j < w → S j n ≡ T j n) → rows w S ≡ rows w T
  rows_same zero S T h = refl
  rows_same (suc w) S T h =
      ap₂ ◌∷◌ (fun_ext (λ n. h 0 n (omega arith))) (rows_same w (λ j. S (suc j)) (λ j. T (suc j)) (λ j n l. h (suc j) n (omega arith)))

  -- ---- times a power of x

  abbrev pub ups : ℕ → (ℕ → E) → ℕ → E
  ups zero s = s
  ups (suc r) s = up F (ups r s)

  ups_low : (r : ℕ) (s : ℕ → E) (n : ℕ) → n < r → ups r s n ≡ o
  ups_low zero s n l = absurd (omega arith)
  ups_low (suc r) s zero l = refl
  ups_low (suc r) s (suc n) l = ups_low r s n (omega arith)

  ups_high : (r : ℕ) (s : ℕ → E) (n : ℕ) → r ≤ n → ups r s n ≡ s (n - r)
  ups_high zero s n l = ap s (omega arith)
  ups_high (suc r) s zero l = absurd (omega arith)
  ups_high (suc r) s (suc n) l = ups_high r s n (omega arith) ∙ ap s (omega arith)

  ups_at : (r : ℕ) (s : ℕ → E) (n : ℕ) → ups r s (r + n) ≡ s n
  ups_at r s n = ups_high r s (r + n) (omega arith) ∙ ap s (omega arith)

  ups-add : (r : ℕ) (s t : ℕ → E) (n : ℕ) → ups r (λ k. s k ⊕ t k) n ≡ ups r s n ⊕ ups r t n
  ups-add zero s t n = refl
  ups-add (suc r) s t n = under F (ups-add r s t) n ∙ up-add F (ups r s) (ups r t) n

  ups-zero : (r n : ℕ) → ups r (λ k. o) n ≡ o
  ups-zero zero n = refl
  ups-zero (suc r) n = under F (ups-zero r) n ∙ up-zero F n

  ups_same : (r : ℕ) {s t : ℕ → E} → ((n : ℕ) → s n ≡ t n) → (n : ℕ) → ups r s n ≡ ups r t n
  ups_same r h n = ap (λ s. ups r s n) (fun_ext h)

  ups-up : (r : ℕ) (s : ℕ → E) (n : ℕ) → ups r (up F s) n ≡ up F (ups r s) n
  ups-up zero s n = refl
  ups-up (suc r) s n = under F (ups-up r s) n

  by-ups : (f : List E) (r : ℕ) (s : ℕ → E) (n : ℕ) → by F f (ups r s) n ≡ ups r (by F f s) n
  by-ups f zero s n = refl
  by-ups f (suc r) s n = by-up F f (ups r s) n ∙ under F (by-ups f r s) n

  value-ups : (r w : ℕ) (S : ℕ → ℕ → E) (f : List E) (n : ℕ) → value F (rows w (λ j. ups r (S j))) f n ≡ ups r (value F (rows w S) f) n
  value-ups r zero S f n = sym (ups-zero r n)
  value-ups r (suc w) S f n =
      ap (λ y. ups r (S 0) n ⊕ y)
      (by_same F f (value-ups r w (λ j. S (suc j)) f) n ∙ by-ups f r (value F (rows w (λ j. S (suc j))) f) n)
      ∙ sym (ups-add r (S 0) (by F f (value F (rows w (λ j. S (suc j))) f)) n)

  -- a factor x^r changes no root
  pub roots_ups : (r w : ℕ) (S T : ℕ → ℕ → E) (f : List E) → ((j n : ℕ) → j < w → n < r → S j n ≡ o)
      → ((j n : ℕ) → j < w → r ≤ n → S j n ≡ T j (n - r))
      → ((n : ℕ) → value F (rows w S) f n ≡ o) ↔ ((n : ℕ) → value F (rows w T) f n ≡ o)
  roots_ups r w S T f low high = (λ z n. sym (ups_at r (value F (rows w T) f) n) ∙ sym (same (r + n)) ∙ z (r + n), λ z n. same n ∙ ups_same r z n ∙ ups-zero r n)
    where
      entry : (j n : ℕ) → j < w → S j n ≡ ups r (T j) n
      entry j n l =
          elim (cases_lt n r)
          [ inl u ↦ low j n l u ∙ sym (ups_low r (T j) n u) | inr u ↦ high j n l u ∙ sym (ups_high r (T j) n u) ]

      same : (n : ℕ) → value F (rows w S) f n ≡ ups r (value F (rows w T) f) n
      same n = ap (λ R. value F R f n) (rows_same w S (λ j. ups r (T j)) entry) ∙ value-ups r w T f n

  -- ---- at y + c

  abbrev pub linear : E → (ℕ → E) → List (ℕ → E) → List (ℕ → E)
  linear c p [] = p ∷ []
  linear c p (t ∷ T) = (λ n. p n ⊕ c ⊗ t n) ∷ linear c t T

  abbrev pub shift : E → List (ℕ → E) → List (ℕ → E)
  shift c [] = []
  shift c (p ∷ P) = linear c p (shift c P)

  last_step : (p c b : E) → p ⊕ b ≡ p ⊕ (c ⊗ o ⊕ b)
  last_step p c b = simp ring

  linear_step : (p c t b x y : E) → p ⊕ c ⊗ t ⊕ (x ⊕ (c ⊗ b ⊕ y)) ≡ p ⊕ (c ⊗ (t ⊕ b) ⊕ (x ⊕ y))
  linear_step p c t b x y = simp ring

  value-linear : (c : E) (p : ℕ → E) (T : List (ℕ → E)) (h : List E) (n : ℕ)
      → value F (linear c p T) h n ≡ p n ⊕ (c ⊗ value F T h n ⊕ by F h (value F T h) n)
  value-linear c p [] h n = last_step (p n) c (by F h (value F [] h) n)
  value-linear c p (t ∷ T) h n =
      ap (λ y. p n ⊕ c ⊗ t n ⊕ y)
      (by_same F h (value-linear c t T h) n
      ∙ by-add F h t (λ k. c ⊗ V k ⊕ by F h V k) n
      ∙ ap (λ y. by F h t n ⊕ y) (by-add F h (λ k. c ⊗ V k) (by F h V) n ∙ ap (λ y. y ⊕ by F h (by F h V) n) (by-scale F h c V n)))
      ∙ linear_step (p n) c (t n) (by F h V n) (by F h t n) (by F h (by F h V) n)
      ∙ ap (λ y. p n ⊕ (c ⊗ (t n ⊕ by F h V n) ⊕ y)) (sym (by-add F h t (by F h V) n))
    where
      V : ℕ → E
      V = value F T h

  shift_step : (p c v w : E) → p ⊕ (c ⊗ v ⊕ (o ⊗ v ⊕ w)) ≡ p ⊕ (c ⊗ v ⊕ w)
  shift_step p c v w = simp ring

  value-shift : (c : E) (P : List (ℕ → E)) (g : List E) (n : ℕ) → value F (shift c P) (o ∷ g) n ≡ value F P (c ∷ g) n
  value-shift c [] g n = refl
  value-shift c (p ∷ P) g n =
      value-linear c p (shift c P) (o ∷ g) n
      ∙ ap (λ v. p n ⊕ (c ⊗ v n ⊕ (o ⊗ v n ⊕ up F (by F g v) n))) (fun_ext (value-shift c P g))
      ∙ shift_step (p n) c (value F P (c ∷ g) n) (up F (by F g (value F P (c ∷ g))) n)

  -- ---- at x·y

  abbrev pub spread : ℕ → List (ℕ → E) → List (ℕ → E)
  spread j [] = []
  spread j (s ∷ R) = ups j s ∷ spread (suc j) R

  spread_step : (v w : E) → o ⊗ v ⊕ w ≡ w
  spread_step v w = simp ring

  value-spread : (j : ℕ) (R : List (ℕ → E)) (g : List E) (n : ℕ) → value F (spread j R) g n ≡ ups j (value F R (o ∷ g)) n
  value-spread j [] g n = sym (ups-zero j n)
  value-spread j (s ∷ R) g n =
      ap (λ y. ups j s n ⊕ y)
      (by_same F g (value-spread (suc j) R g) n
      ∙ by-ups g (suc j) V n
      ∙ sym (ups-up j (by F g V) n)
      ∙ ups_same j (λ k. sym (spread_step (V k) (up F (by F g V) k))) n)
      ∙ sym (ups-add j s (λ k. o ⊗ V k ⊕ up F (by F g V) k) n)
    where
      V : ℕ → E
      V = value F R (o ∷ g)

  -- at c + x·y
  pub value_substituted : (c : E) (R : List (ℕ → E)) (g : List E) (n : ℕ) → value F (spread 0 (shift c R)) g n ≡ value F R (c ∷ g) n
  value_substituted c R g n = value-spread 0 (shift c R) g n ∙ value-shift c R g n

  -- ---- what stands before a power of x

  abbrev pub column : ℕ → List (ℕ → E) → List E
  column n [] = []
  column n (s ∷ R) = s n ∷ column n R

  abbrev pub lin : E → E → List E → List E
  lin c p [] = p ∷ []
  lin c p (t ∷ T) = (p ⊕ c ⊗ t) ∷ lin c t T

  abbrev pub moved : E → List E → List E
  moved c [] = []
  moved c (p ∷ P) = lin c p (moved c P)

  column-linear : (c : E) (p : ℕ → E) (T : List (ℕ → E)) (n : ℕ) → column n (linear c p T) ≡ lin c (p n) (column n T)
  column-linear c p [] n = refl
  column-linear c p (t ∷ T) n = ap (λ l. (p n ⊕ c ⊗ t n) ∷ l) (column-linear c t T n)

  column-shift : (c : E) (P : List (ℕ → E)) (n : ℕ) → column n (shift c P) ≡ moved c (column n P)
  column-shift c [] n = refl
  column-shift c (p ∷ P) n = column-linear c p (shift c P) n ∙ ap (λ l. lin c (p n) l) (column-shift c P n)

  linear-length : (c : E) (p : ℕ → E) (T : List (ℕ → E)) → length (linear c p T) ≡ suc (length T)
  linear-length c p [] = refl
  linear-length c p (t ∷ T) = ap suc (linear-length c t T)

  shift-length : (c : E) (P : List (ℕ → E)) → length (shift c P) ≡ length P
  shift-length c [] = refl
  shift-length c (p ∷ P) = linear-length c p (shift c P) ∙ ap suc (shift-length c P)

  pub rows-length : (w : ℕ) (S : ℕ → ℕ → E) → length (rows w S) ≡ w
  rows-length zero S = refl
  rows-length (suc w) S = ap suc (rows-length w (λ j. S (suc j)))

  rows-spread : (w j : ℕ) (R : List (ℕ → E)) (T : ℕ → ℕ → E) → length R ≡ w
      → ((k n : ℕ) → k < w → n < j + k → T k n ≡ o)
      → ((k n : ℕ) → k < w → j + k ≤ n → T k n ≡ co F (column (n - (j + k)) R) k)
      → rows w T ≡ spread j R
  rows-spread zero j [] T e low high = refl
  rows-spread zero j (s ∷ R) T e low high = absurd (omega arith)
  rows-spread (suc w) j [] T e low high = absurd (omega arith)
  rows-spread (suc w) j (s ∷ R) T e low high =
      ap₂ ◌∷◌ (fun_ext entry)
      (rows-spread w (suc j) R (λ k. T (suc k)) (omega arith) (λ k n l u. low (suc k) n (omega arith) (omega arith))
      (λ k n l u. high (suc k) n (omega arith) (omega arith) ∙ ap (λ (q : ℕ). co F (column q R) k) (omega arith)))
    where
      entry : (n : ℕ) → T 0 n ≡ ups j s n
      entry n =
          elim (cases_lt n j) [
            | inl u ↦ low 0 n (omega arith) (omega arith) ∙ sym (ups_low j s n u)
            | inr u ↦ high 0 n (omega arith) (omega arith) ∙ ap s (omega arith) ∙ sym (ups_high j s n u)
          ]

  -- rows T are rows S at c + x·y
  pub value-rows_substituted : (c : E) (w : ℕ) (S T : ℕ → ℕ → E) (g : List E)
      → ((k n : ℕ) → k < w → n < k → T k n ≡ o)
      → ((k n : ℕ) → k < w → k ≤ n → T k n ≡ co F (moved c (column (n - k) (rows w S))) k)
      → (n : ℕ) → value F (rows w T) g n ≡ value F (rows w S) (c ∷ g) n
  value-rows_substituted c w S T g low high n =
      ap (λ R. value F R g n)
      (rows-spread w 0 (shift c (rows w S)) T (shift-length c (rows w S) ∙ rows-length w S)
      (λ k q l u. low k q l (omega arith))
      (λ k q l u.
      let e : q - (0 + k) ≡ q - k = omega arith in
      high k q l (omega arith) ∙ ap (λ P. co F P k) (sym (column-shift c (rows w S) (q - k)) ∙ ap (λ (t : ℕ). column t (shift c (rows w S))) (sym e))))
      ∙ value_substituted c (rows w S) g n

  -- ---- the first coefficient of a root, and a root of one coefficient

  pub value_first : (R : List (ℕ → E)) (c : E) (g : List E) → value F R (c ∷ g) 0 ≡ eval F (column 0 R) c
  value_first [] c g = refl
  value_first (s ∷ R) c g = ap (λ y. s 0 ⊕ y) (add-zero F (c ⊗ value F R (c ∷ g) 0) ∙ ap (λ y. c ⊗ y) (value_first R c g))

  pub value-one : (R : List (ℕ → E)) (c : E) (n : ℕ) → value F R (c ∷ []) n ≡ eval F (column n R) c
  value-one [] c n = refl
  value-one (s ∷ R) c n =
      ap (λ y. s n ⊕ (c ⊗ value F R (c ∷ []) n ⊕ y)) (up-zero F n)
      ∙ ap (λ y. s n ⊕ y) (add-zero F (c ⊗ value F R (c ∷ []) n) ∙ ap (λ y. c ⊗ y) (value-one R c n))

  -- ---- the highest terms at y + c are those at y

  lin_first : (c p : E) (T : List E) → co F (lin c p T) 0 ≡ p ⊕ c ⊗ co F T 0
  lin_first c p [] = simp ring
  lin_first c p (t ∷ T) = refl

  lin_next : (c p : E) (T : List E) (k : ℕ) → co F (lin c p T) (suc k) ≡ co F T k ⊕ c ⊗ co F T (suc k)
  lin_next c p [] k = simp ring
  lin_next c p (t ∷ T) zero = lin_first c t T
  lin_next c p (t ∷ T) (suc k) = lin_next c t T k

  pub none : (c : E) → o ⊕ c ⊗ o ≡ o
  none c = simp ring

  kept : (c p : E) → p ⊕ c ⊗ o ≡ p
  kept c p = simp ring

  pub moved_above : (c : E) (P : List E) (k : ℕ) → ((j : ℕ) → k ≤ j → co F P j ≡ o) → co F (moved c P) k ≡ o
  moved_above c [] k h = refl
  moved_above c (p ∷ P) zero h =
      lin_first c p (moved c P)
      ∙ ap₂ (λ x y. x ⊕ c ⊗ y) (h 0 (omega arith)) (moved_above c P 0 (λ j l. h (suc j) (omega arith))) ∙ none c
  moved_above c (p ∷ P) (suc k) h =
      lin_next c p (moved c P) k
      ∙ ap₂ (λ x y. x ⊕ c ⊗ y) (moved_above c P k (λ j l. h (suc j) (omega arith))) (moved_above c P (suc k) (λ j l. h (suc j) (omega arith)))
      ∙ none c

  pub moved_top : (c : E) (P : List E) (k : ℕ) → ((j : ℕ) → k < j → co F P j ≡ o) → co F (moved c P) k ≡ co F P k
  moved_top c [] k h = refl
  moved_top c (p ∷ P) zero h =
      lin_first c p (moved c P) ∙ ap (λ y. p ⊕ c ⊗ y) (moved_above c P 0 (λ j l. h (suc j) (omega arith))) ∙ kept c p
  moved_top c (p ∷ P) (suc k) h =
      lin_next c p (moved c P) k
      ∙ ap₂ (λ x y. x ⊕ c ⊗ y) (moved_top c P k (λ j l. h (suc j) (omega arith))) (moved_above c P (suc k) (λ j l. h (suc j) (omega arith)))
      ∙ kept c (co F P k)

  abbrev pub Top : List E → ℕ → Type 0
  Top P k = ¬ (co F P k ≡ o) × ((j : ℕ) → k < j → co F P j ≡ o)

  pub highest : (P : List E) → ((k : ℕ) → co F P k ≡ o) ⊎ ((k : ℕ) × Top P k)
  highest [] = inl (λ k. refl)
  highest (p ∷ P) = on (highest P) (F.same p o)
    where
      after : (h : (k : ℕ) → co F P k ≡ o) (j : ℕ) → 0 < j → co F (p ∷ P) j ≡ o
      after h zero l = absurd (omega arith)
      after h (suc j) l = h j

      later : (k : ℕ) → Top P k → (j : ℕ) → suc k < j → co F (p ∷ P) j ≡ o
      later k t zero l = absurd (omega arith)
      later k t (suc j) l = t.1 j (omega arith)

      all : p ≡ o → ((k : ℕ) → co F P k ≡ o) → (k : ℕ) → co F (p ∷ P) k ≡ o
      all e h zero = e
      all e h (suc k) = h k

      on : ((k : ℕ) → co F P k ≡ o) ⊎ ((k : ℕ) × Top P k) → Dec (p ≡ o) → ((k : ℕ) → co F (p ∷ P) k ≡ o) ⊎ ((k : ℕ) × Top (p ∷ P) k)
      on (inr t) d = inr (suc t.0, (t.1.0, later t.0 t.1))
      on (inl h) (yes e) = inl (all e h)
      on (inl h) (no e) = inr (0, (e, after h))
