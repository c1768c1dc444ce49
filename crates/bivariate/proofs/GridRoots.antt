-- The roots in y of a polynomial laid out in w·d numbers, and what steps to another polynomial do to them.
-- Assumes nothing.
use Rattle.std.proofs.Common.{◌≡◌, ℕ, zero, suc, ◌+◌, ◌-◌, ◌*◌, ◌<◌, ◌≤◌, ◌⊎◌, ◌↔◌, List, [], ◌∷◌, map, length, get_or, drop, sym, refl, ap, ◌∙◌, subst, ap₂, inl, inr, arith}
use native.Mathlib.Decide.{ℕ_discrete}
use Rattle.std.specs.List.{range_with_len, AllByRecursion}
use Rattle.std.proofs.lemmas.Bool.{cases_lt}
use Rattle.std.proofs.lemmas.List.{get_or_past, get_or-take, get_or-drop, length-take-le, length-drop, length-map}
use Rattle.std.proofs.ByRecursion.{All-get_or, All-map, All-take, All-drop}
use Rattle.std.proofs.lemmas.List.FromFn.{length-map-range_with_len, get_or-map-range_with_len}
use Rattle.std.proofs.lemmas.Nat.{mul-le}
use Rattle.field.specs.Meaning.{FieldMeaning, FieldLaws}
use Rattle.field.specs.Polynomial.{value_at}
use Rattle.field.proofs.Abstract.{AbstractField}
use Rattle.field.proofs.Roots.{eval}
use Rattle.field.proofs.Numbers.{Element, abstract}
use Rattle.bivariate.specs.Bivariate.{Elements, Zeros, Root, coefficient, Distinct}
use Rattle.bivariate.specs.Grid.{cell, group, grid_row, grid, Weighted, Nonzero, shifted}
use Rattle.bivariate.specs.Steps.{Divided}
use Rattle.bivariate.proofs.Sequences.{co, value}
use Rattle.bivariate.proofs.Substitution.{rows, rows-length, column, moved, none, moved_above, moved_top, Top, highest, roots_ups, value-rows_substituted, value_first, value-one}
use Rattle.bivariate.proofs.FewRoots.{None, Apart, many_roots}
use Rattle.bivariate.proofs.Embedding.{element, element-number, element-zero, element_of_zero, get_or-element, value-element, shifted-elements, embed-value, embed-shifted, co-element, root-rows}

-- from cs to cs' with c + x·y in place of y, as far as there is room
pub record Substituted (m : FieldMeaning) (c w d : ℕ) (cs cs' : List ℕ) : Type 0 where
  pub moved : (g j : ℕ) → g < d → j < w → j ≤ g → cell w cs' g j ≡ get_or (shifted m c (group w cs (g - j))) j 0
  pub cleared : (g j : ℕ) → g < d → j < w → g < j → cell w cs' g j ≡ 0

-- ---- the coefficients of the grid

pub coefficient_in : (w d : ℕ) (cs : List ℕ) (g j : ℕ) → g < d → j < w → coefficient (grid w d cs) g j ≡ cell w cs g j
coefficient_in w d cs g j h k =
    ap (λ (row : List ℕ). get_or row g 0) (get_or-map-range_with_len (grid_row w d cs) 0 w j j [] k (omega arith))
    ∙ get_or-map-range_with_len (λ (q : ℕ). cell w cs q j) 0 d g g 0 h (omega arith)

pub coefficient_out : (w d : ℕ) (cs : List ℕ) (g j : ℕ) → d ≤ g → j < w → coefficient (grid w d cs) g j ≡ 0
coefficient_out w d cs g j h k =
    ap (λ (row : List ℕ). get_or row g 0) (get_or-map-range_with_len (grid_row w d cs) 0 w j j [] k (omega arith))
    ∙ get_or_past (grid_row w d cs j) g 0 (omega (arith, length-map-range_with_len (λ (q : ℕ). cell w cs q j) 0 d))

each : {X : Type 0} (P : X → Type 0) → ((x : X) → P x) → (xs : List X) → AllByRecursion P xs
each P h [] = tt
each P h (x ∷ xs) = (h x, each P h xs)

pub group-length : (w d : ℕ) (cs : List ℕ) (g : ℕ) → length cs ≡ w * d → g < d → length (group w cs g) ≡ w
group-length w d cs g e h = length-take-le w (drop (g * w) cs) (omega (arith, length-drop (g * w) cs, mul-le (suc g) w d w (omega arith) (omega arith)))

pub group_at : (w : ℕ) (cs : List ℕ) (g j : ℕ) → j < w → get_or (group w cs g) j 0 ≡ cell w cs g j
group_at w cs g j h = get_or-take w (drop (g * w) cs) j 0 h ∙ get_or-drop (g * w) cs j 0

-- ---- steps for which the field does not matter

pub weighted_divided : (v w d r : ℕ) (cs cs' : List ℕ) → Divided w d r cs cs' → Weighted v w d cs → Weighted v w d cs'
weighted_divided v w d r cs cs' s u g j a b t =
    elim (cases_lt (g + r) d) [ inl l ↦ s.moved g j a b l ∙ u (g + r) j l b (omega arith) | inr l ↦ s.cleared g j a b l ]

pub nonzero_divided : (w d r : ℕ) (cs cs' : List ℕ) (j : ℕ) → r < d → j < w → Divided w d r cs cs' → ¬ (cell w cs r j ≡ 0) → Nonzero w d cs'
nonzero_divided w d r cs cs' j a b s z =
    (0, j, omega arith, b, λ e. z (ap (λ (q : ℕ). cell w cs q j) (let x : r ≡ 0 + r = omega arith in x) ∙ sym (s.moved 0 j (omega arith) b (omega arith)) ∙ e))

-- a coefficient that is not 0, or none
in_row : (p : List ℕ) → Zeros p ⊎ ((g : ℕ) × (g < length p) × ¬ (get_or p g 0 ≡ 0))
in_row [] = inl tt
in_row (a ∷ p) = on (ℕ_discrete a 0) (in_row p)
  where
    on : Dec (a ≡ 0) → Zeros p ⊎ ((g : ℕ) × (g < length p) × ¬ (get_or p g 0 ≡ 0)) → Zeros (a ∷ p) ⊎ ((g : ℕ) × (g < length (a ∷ p)) × ¬ (get_or (a ∷ p) g 0 ≡ 0))
    on (no n) t = inr (0, omega arith, n)
    on (yes e) (inl z) = inl (e, z)
    on (yes e) (inr t) = inr (suc t.0, omega (arith, t.1), t.2)

abbrev Filled : List (List ℕ) → Type 0
Filled Q = (g : ℕ) × (j : ℕ) × (j < length Q) × (g < length (get_or Q j [])) × ¬ (coefficient Q g j ≡ 0)

in_rows : (Q : List (List ℕ)) → AllByRecursion Zeros Q ⊎ Filled Q
in_rows [] = inl tt
in_rows (p ∷ Q) = on (in_row p) (in_rows Q)
  where
    on : Zeros p ⊎ ((g : ℕ) × (g < length p) × ¬ (get_or p g 0 ≡ 0)) → AllByRecursion Zeros Q ⊎ Filled Q → AllByRecursion Zeros (p ∷ Q) ⊎ Filled (p ∷ Q)
    on (inr t) d = inr (t.0, 0, omega arith, t.1, t.2)
    on (inl z) (inl y) = inl (z, y)
    on (inl z) (inr t) = inr (t.0, suc t.1, omega (arith, t.2), t.3, t.4)

pub nonzero_laid_out : (w d : ℕ) (cs : List ℕ) (Q : List (List ℕ)) → length Q ≤ w → AllByRecursion (λ row. length row ≤ d) Q
    → ((g j : ℕ) → g < d → j < w → cell w cs g j ≡ coefficient Q g j) → ¬ (AllByRecursion Zeros Q) → Nonzero w d cs
nonzero_laid_out w d cs Q l t s n = on (in_rows Q)
  where
    on : AllByRecursion Zeros Q ⊎ Filled Q → Nonzero w d cs
    on (inl z) = absurd (n z)
    on (inr u) =
        let a : u.0 < d = omega (arith, u.3, All-get_or (λ row. length row ≤ d) Q u.1 [] u.2 t) in
        let b : u.1 < w = omega (arith, u.2) in
        (u.0, u.1, a, b, λ e. u.4 (sym (s u.0 u.1 a b) ∙ e))

module _ (m : FieldMeaning) (laws : FieldLaws m) where
  abbrev F : AbstractField
  F = abstract m laws

  abbrev embed : List ℕ → List (Element m laws)
  embed p = map (element m laws) p

  -- ---- the grid as rows of elements

  abbrev cells : ℕ → ℕ → List ℕ → ℕ → ℕ → Element m laws
  cells w d cs j n = element m laws (coefficient (grid w d cs) n j)

  cells_in : (w d : ℕ) (cs : List ℕ) (j n : ℕ) → n < d → j < w → cells w d cs j n ≡ element m laws (cell w cs n j)
  cells_in w d cs j n h k = ap (element m laws) (coefficient_in w d cs n j h k)

  cells_none : (w d : ℕ) (cs : List ℕ) (j n : ℕ) → j < w → (n < d → cell w cs n j ≡ 0) → cells w d cs j n ≡ F.o
  cells_none w d cs j n k z =
      elim (cases_lt n d) [
        | inl h ↦ cells_in w d cs j n h k ∙ ap (element m laws) (z h) ∙ element-zero m laws
        | inr h ↦ ap (element m laws) (coefficient_out w d cs n j h k) ∙ element-zero m laws
      ]

  pub grid-elements : (w d : ℕ) (cs : List ℕ) → Elements m cs → AllByRecursion (Elements m) (grid w d cs)
  grid-elements w d cs h =
      All-map (Elements m) (grid_row w d cs) (range_with_len 0 w)
      (each (λ j. Elements m (grid_row w d cs j))
      (λ j. All-map (λ c. c < m.size) (λ g. cell w cs g j) (range_with_len 0 d)
      (each (λ g. cell w cs g j < m.size) (λ g. get_or-element m laws cs (g * w + j) h) (range_with_len 0 d)))
      (range_with_len 0 w))

  root_cells : (w d : ℕ) (cs f : List ℕ) → Elements m cs → Elements m f
      → Root m (grid w d cs) f ↔ ((n : ℕ) → value F (rows F w (cells w d cs)) (embed f) n ≡ F.o)
  root_cells w d cs f h k =
      root-rows m laws (grid w d cs) w (cells w d cs) f (grid-elements w d cs h) k
      (omega (arith, length-map-range_with_len (grid_row w d cs) 0 w)) (λ j n l. refl)

  column_from : (p : List ℕ) (w : ℕ) (S : ℕ → ℕ → Element m laws) (n : ℕ) → length p ≡ w
      → ((j : ℕ) → j < w → S j n ≡ element m laws (get_or p j 0)) → column F n (rows F w S) ≡ embed p
  column_from [] zero S n e h = refl
  column_from [] (suc w) S n e h = absurd (omega arith)
  column_from (a ∷ p) zero S n e h = absurd (omega arith)
  column_from (a ∷ p) (suc w) S n e h =
      ap₂ ◌∷◌ (h 0 (omega arith)) (column_from p w (λ j. S (suc j)) n (omega arith) (λ j l. h (suc j) (omega arith)))

  column-group : (w d : ℕ) (cs : List ℕ) (g : ℕ) → length cs ≡ w * d → g < d
      → column F g (rows F w (cells w d cs)) ≡ embed (group w cs g)
  column-group w d cs g e h =
      column_from (group w cs g) w (cells w d cs) g (group-length w d cs g e h)
      (λ j l. cells_in w d cs j g h l ∙ ap (element m laws) (sym (group_at w cs g j l)))

  -- from its place k on the column is 0 where the rows are
  co-column : (w : ℕ) (S : ℕ → ℕ → Element m laws) (n k : ℕ) → ((j : ℕ) → j < w → k ≤ j → S j n ≡ F.o)
      → (j : ℕ) → k ≤ j → co F (column F n (rows F w S)) j ≡ F.o
  co-column zero S n k h j l = refl
  co-column (suc w) S n k h zero l = h 0 (omega arith) l
  co-column (suc w) S n k h (suc j) l =
      co-column w (λ q. S (suc q)) n (k - 1) (λ q u v. h (suc q) (omega arith) (omega arith)) j (omega arith)

  column-value_none : (w : ℕ) (S : ℕ → ℕ → Element m laws) (n : ℕ) (c : Element m laws) → ((j : ℕ) → j < w → S j n ≡ F.o)
      → eval F (column F n (rows F w S)) c ≡ F.o
  column-value_none zero S n c h = refl
  column-value_none (suc w) S n c h =
      ap₂ (λ x y. F.◌⊕◌ x (F.◌⊗◌ c y)) (h 0 (omega arith)) (column-value_none w (λ q. S (suc q)) n c (λ j l. h (suc j) (omega arith)))
      ∙ none F c

  pub group-elements : (w : ℕ) (cs : List ℕ) (g : ℕ) → Elements m cs → Elements m (group w cs g)
  group-elements w cs g h = All-take (λ c. c < m.size) w (drop (g * w) cs) (All-drop (λ c. c < m.size) (g * w) cs h)

  group-value : (w d : ℕ) (cs : List ℕ) (g c : ℕ) → Elements m cs → c < m.size → length cs ≡ w * d → g < d
      → element m laws (value_at m (group w cs g) c) ≡ eval F (column F g (rows F w (cells w d cs))) (element m laws c)
  group-value w d cs g c h k e l =
      embed-value m laws (group w cs g) c (group-elements w cs g h) k
      ∙ ap (λ p. eval F p (element m laws c)) (sym (column-group w d cs g e l))

  -- the first coefficient of a root is a root of what stands before x^0
  pub root_first : (w d : ℕ) (cs : List ℕ) (c : ℕ) (f : List ℕ) → Elements m cs → c < m.size → Elements m f → length cs ≡ w * d → 1 ≤ d
      → Root m (grid w d cs) (c ∷ f) → value_at m (group w cs 0) c ≡ 0
  root_first w d cs c f h k l e u r =
      element_of_zero m laws (value_at m (group w cs 0) c) (value-element m laws (group w cs 0) c (group-elements w cs 0 h) k)
      (group-value w d cs 0 c h k e u
      ∙ sym (value_first F (rows F w (cells w d cs)) (element m laws c) (embed f))
      ∙ (root_cells w d cs (c ∷ f) h (k, l)).0 r 0)

  -- one coefficient is a root exactly if it is one of what stands before each power of x
  pub root_one : (w d : ℕ) (cs : List ℕ) (c : ℕ) → Elements m cs → c < m.size → length cs ≡ w * d
      → Root m (grid w d cs) (c ∷ []) ↔ ((g : ℕ) → g < d → value_at m (group w cs g) c ≡ 0)
  root_one w d cs c h k e = (there, λ z. (root_cells w d cs (c ∷ []) h (k, tt)).1 (back z))
    where
      there : Root m (grid w d cs) (c ∷ []) → (g : ℕ) → g < d → value_at m (group w cs g) c ≡ 0
      there r g l =
          element_of_zero m laws (value_at m (group w cs g) c) (value-element m laws (group w cs g) c (group-elements w cs g h) k)
          (group-value w d cs g c h k e l
          ∙ sym (value-one F (rows F w (cells w d cs)) (element m laws c) g)
          ∙ (root_cells w d cs (c ∷ []) h (k, tt)).0 r g)

      back : ((g : ℕ) → g < d → value_at m (group w cs g) c ≡ 0) → (n : ℕ) → value F (rows F w (cells w d cs)) (element m laws c ∷ []) n ≡ F.o
      back z n =
          value-one F (rows F w (cells w d cs)) (element m laws c) n
          ∙ elim (cases_lt n d) [
            | inl l ↦ sym (group-value w d cs n c h k e l) ∙ ap (element m laws) (z n l) ∙ element-zero m laws
            | inr l ↦ column-value_none w (cells w d cs) n (element m laws c) (λ j u. cells_none w d cs j n u (λ v. absurd (omega arith)))
          ]

  -- ---- division by x^r

  pub root_divided : (w d r : ℕ) (cs cs' f : List ℕ) → Elements m cs → Elements m cs' → Elements m f → r < d → Divided w d r cs cs'
      → Root m (grid w d cs) f ↔ Root m (grid w d cs') f
  root_divided w d r cs cs' f h h' k l s =
      (λ z. after.1 (same.0 (before.0 z)), λ z. before.1 (same.1 (after.0 z)))
    where
      before : Root m (grid w d cs) f ↔ ((n : ℕ) → value F (rows F w (cells w d cs)) (embed f) n ≡ F.o)
      before = root_cells w d cs f h k

      after : Root m (grid w d cs') f ↔ ((n : ℕ) → value F (rows F w (cells w d cs')) (embed f) n ≡ F.o)
      after = root_cells w d cs' f h' k

      high : (j n : ℕ) → j < w → r ≤ n → cells w d cs j n ≡ cells w d cs' j (n - r)
      high j n u v =
          elim (cases_lt n d) [
            | inl b ↦ cells_in w d cs j n b u
                ∙ ap (element m laws)
                (ap (λ (q : ℕ). cell w cs q j) (let e : n ≡ n - r + r = omega arith in e) ∙ sym (s.moved (n - r) j (omega arith) u (omega arith)))
                ∙ sym (cells_in w d cs' j (n - r) (omega arith) u)
            | inr b ↦ cells_none w d cs j n u (λ a. absurd (omega arith))
                ∙ sym (cells_none w d cs' j (n - r) u (λ a. s.cleared (n - r) j a u (omega arith)))
          ]

      same : ((n : ℕ) → value F (rows F w (cells w d cs)) (embed f) n ≡ F.o) ↔ ((n : ℕ) → value F (rows F w (cells w d cs')) (embed f) n ≡ F.o)
      same = roots_ups F r w (cells w d cs) (cells w d cs') (embed f) (λ j n u v. cells_none w d cs j n u (λ b. s.lost n j v u)) high

  -- ---- c + x·y in place of y

  shifted-cell : (w d : ℕ) (cs : List ℕ) (c g j : ℕ) → Elements m cs → c < m.size → length cs ≡ w * d → g < d
      → element m laws (get_or (shifted m c (group w cs g)) j 0) ≡ co F (moved F (element m laws c) (column F g (rows F w (cells w d cs)))) j
  shifted-cell w d cs c g j h k e l =
      sym (co-element m laws (shifted m c (group w cs g)) j)
      ∙ ap (λ p. co F p j)
      (embed-shifted m laws c (group w cs g) k (group-elements w cs g h) ∙ ap (moved F (element m laws c)) (sym (column-group w d cs g e l)))

  -- where x^g has no y^q for q from j on, it has no y^j after the shift
  shifted_none : (w d : ℕ) (cs : List ℕ) (c g j : ℕ) → ((q : ℕ) → g < d → q < w → j ≤ q → cell w cs g q ≡ 0)
      → co F (moved F (element m laws c) (column F g (rows F w (cells w d cs)))) j ≡ F.o
  shifted_none w d cs c g j z =
      moved_above F (element m laws c) (column F g (rows F w (cells w d cs))) j
      (co-column w (cells w d cs) g j (λ q u v. cells_none w d cs q g u (λ b. z q b u v)))

  pub root_substituted : (w d c : ℕ) (cs cs' f : List ℕ) → Elements m cs → Elements m cs' → c < m.size → Elements m f → length cs ≡ w * d
      → Weighted 1 w d cs → Substituted m c w d cs cs' → Root m (grid w d cs) (c ∷ f) ↔ Root m (grid w d cs') f
  root_substituted w d c cs cs' f h h' k l e u s =
      (λ z. after.1 (λ n. same n ∙ before.0 z n), λ z. before.1 (λ n. sym (same n) ∙ after.0 z n))
    where
      before : Root m (grid w d cs) (c ∷ f) ↔ ((n : ℕ) → value F (rows F w (cells w d cs)) (embed (c ∷ f)) n ≡ F.o)
      before = root_cells w d cs (c ∷ f) h (k, l)

      after : Root m (grid w d cs') f ↔ ((n : ℕ) → value F (rows F w (cells w d cs')) (embed f) n ≡ F.o)
      after = root_cells w d cs' f h' l

      high : (j n : ℕ) → j < w → j ≤ n → cells w d cs' j n ≡ co F (moved F (element m laws c) (column F (n - j) (rows F w (cells w d cs)))) j
      high j n a b =
          elim (cases_lt n d) [
            | inl v ↦ cells_in w d cs' j n v a ∙ ap (element m laws) (s.moved n j v a b) ∙ shifted-cell w d cs c (n - j) j h k e (omega arith)
            | inr v ↦ cells_none w d cs' j n a (λ t. absurd (omega arith))
                ∙ sym (shifted_none w d cs c (n - j) j (λ q x y t. u (n - j) q x y (omega arith)))
          ]

      same : (n : ℕ) → value F (rows F w (cells w d cs')) (embed f) n ≡ value F (rows F w (cells w d cs)) (embed (c ∷ f)) n
      same n =
          value-rows_substituted F (element m laws c) w (cells w d cs) (cells w d cs') (embed f)
          (λ j q a b. cells_none w d cs' j q a (λ v. s.cleared q j v a b)) high n

  -- ---- another layout of the same polynomial

  pub root_laid_out : (w d : ℕ) (cs : List ℕ) (Q : List (List ℕ)) (f : List ℕ) → Elements m cs → AllByRecursion (Elements m) Q → Elements m f
      → length Q ≤ w → AllByRecursion (λ row. length row ≤ d) Q → ((g j : ℕ) → g < d → j < w → cell w cs g j ≡ coefficient Q g j)
      → Root m Q f ↔ Root m (grid w d cs) f
  root_laid_out w d cs Q f h hq k l t s = (λ z. after.1 (before.0 z), λ z. before.1 (after.0 z))
    where
      short : (j : ℕ) → length (get_or Q j []) ≤ d
      short j =
          elim (cases_lt j (length Q)) [
            | inl u ↦ All-get_or (λ row. length row ≤ d) Q j [] u t
            | inr u ↦ subst (λ (row : List ℕ). length row ≤ d) (sym (get_or_past Q j [] u)) (omega arith)
          ]

      entry : (j n : ℕ) → j < w → cells w d cs j n ≡ element m laws (coefficient Q n j)
      entry j n u =
          elim (cases_lt n d) [
            | inl v ↦ cells_in w d cs j n v u ∙ ap (element m laws) (s n j v u)
            | inr v ↦ ap (element m laws) (coefficient_out w d cs n j v u ∙ sym (get_or_past (get_or Q j []) n 0 (omega (arith, short j))))
          ]

      before : Root m Q f ↔ ((n : ℕ) → value F (rows F w (cells w d cs)) (embed f) n ≡ F.o)
      before = root-rows m laws Q w (cells w d cs) f hq k l entry

      after : Root m (grid w d cs) f ↔ ((n : ℕ) → value F (rows F w (cells w d cs)) (embed f) n ≡ F.o)
      after = root_cells w d cs f h k

  -- ---- which terms there are after a step

  pub weighted_substituted : (v w d c : ℕ) (cs cs' : List ℕ) → Elements m cs → c < m.size → length cs ≡ w * d
      → Weighted (suc v) w d cs → Substituted m c w d cs cs' → Weighted v w d cs'
  weighted_substituted v w d c cs cs' h k e u s g j a b t = elim (cases_lt g j) [ inl l ↦ s.cleared g j a b l | inr l ↦ s.moved g j a b l ∙ gone l ]
    where
      gone : j ≤ g → get_or (shifted m c (group w cs (g - j))) j 0 ≡ 0
      gone l =
          element_of_zero m laws (get_or (shifted m c (group w cs (g - j))) j 0)
          (get_or-element m laws (shifted m c (group w cs (g - j))) j (shifted-elements m laws c (group w cs (g - j)) k (group-elements w cs (g - j) h)))
          (shifted-cell w d cs c (g - j) j h k e (omega arith)
          ∙ shifted_none w d cs c (g - j) j (λ q x y z. u (g - j) q x y (omega (arith, mul-le v j v q (omega arith) z))))

  pub nonzero_substituted : (w d c : ℕ) (cs cs' : List ℕ) → Elements m cs → c < m.size → length cs ≡ w * d
      → Weighted 1 w d cs → Substituted m c w d cs cs' → Nonzero w d cs → Nonzero w d cs'
  nonzero_substituted w d c cs cs' h k e u s z = on (highest F P)
    where
      g : ℕ
      g = z.0

      P : List (Element m laws)
      P = column F g (rows F w (cells w d cs))

      here : (j : ℕ) → j < w → co F P j ≡ element m laws (cell w cs g j)
      here j l =
          ap (λ p. co F p j) (column-group w d cs g e z.2)
          ∙ co-element m laws (group w cs g) j ∙ ap (element m laws) (group_at w cs g j l)

      none_from : (j : ℕ) → (w ≤ j) ⊎ (d ≤ g + j) → co F P j ≡ F.o
      none_from j (inl l) = co-column w (cells w d cs) g w (λ q a b. absurd (omega arith)) j l
      none_from j (inr l) =
          co-column w (cells w d cs) g j (λ q a b. cells_none w d cs q g a (λ t. u g q t a (omega arith))) j (omega arith)

      result : (j : ℕ) → Top F P j → j < w → g + j < d → Nonzero w d cs'
      result j t a b = (
        g + j,
        j,
        b,
        a,
        λ x. t.0
            (sym (moved_top F (element m laws c) P j t.1)
            ∙ sym (shifted-cell w d cs c g j h k e z.2)
            ∙ ap (element m laws)
            (ap (λ (q : ℕ). get_or (shifted m c (group w cs q)) j 0) (let y : g ≡ g + j - j = omega arith in y)
            ∙ sym (s.moved (g + j) j b a (omega arith)) ∙ x)
            ∙ element-zero m laws),
      )

      on : ((j : ℕ) → co F P j ≡ F.o) ⊎ ((j : ℕ) × Top F P j) → Nonzero w d cs'
      on (inl a) =
          absurd (z.4 (element_of_zero m laws (cell w cs g z.1) (get_or-element m laws cs (g * w + z.1) h) (sym (here z.1 z.3) ∙ a z.1)))
      on (inr t) =
          elim (cases_lt t.0 w) [
            | inl a ↦ elim (cases_lt (g + t.0) d) [ inl b ↦ result t.0 t.1 a b | inr b ↦ absurd (t.1.0 (none_from t.0 (inr b))) ]
            | inr a ↦ absurd (t.1.0 (none_from t.0 (inl a)))
          ]

  -- ---- how many roots there are

  number-embed : (f : List ℕ) → Elements m f → map (λ (u : Element m laws). u.0) (embed f) ≡ f
  number-embed [] h = refl
  number-embed (c ∷ f) h = ap₂ ◌∷◌ (element-number m laws c h.0) (number-embed f h.1)

  embed_other : (f : List ℕ) (fs : List (List ℕ)) → Elements m f → AllByRecursion (Elements m) fs → AllByRecursion (λ g. ¬ (g ≡ f)) fs
      → AllByRecursion (λ g. ¬ (g ≡ embed f)) (map embed fs)
  embed_other f [] h k n = tt
  embed_other f (g ∷ fs) h k n =
      ((λ e. n.0 (sym (number-embed g k.0) ∙ ap (map (λ (u : Element m laws). u.0)) e ∙ number-embed f h)), embed_other f fs h k.1 n.1)

  embed_distinct : (fs : List (List ℕ)) → AllByRecursion (Elements m) fs → Distinct fs → Apart F (map embed fs)
  embed_distinct [] h n = tt
  embed_distinct (f ∷ fs) h n = (embed_other f fs h.0 h.1 n.0, embed_distinct fs h.1 n.1)

  embed_lengths : (k : ℕ) (fs : List (List ℕ)) → AllByRecursion (λ f. length f ≡ k) fs → AllByRecursion (λ g. length g ≡ k) (map embed fs)
  embed_lengths k [] h = tt
  embed_lengths k (f ∷ fs) h = (length-map f (element m laws) ∙ h.0, embed_lengths k fs h.1)

  embed_roots : (w d : ℕ) (cs : List ℕ) (fs : List (List ℕ)) → Elements m cs → AllByRecursion (Elements m) fs → AllByRecursion (Root m (grid w d cs)) fs
      → AllByRecursion (λ g. (n : ℕ) → value F (rows F w (cells w d cs)) g n ≡ F.o) (map embed fs)
  embed_roots w d cs [] h k r = tt
  embed_roots w d cs (f ∷ fs) h k r = ((root_cells w d cs f h k.0).0 r.0, embed_roots w d cs fs h k.1 r.1)

  rows_none : (w : ℕ) (S : ℕ → ℕ → Element m laws) → None F (rows F w S) → (j n : ℕ) → j < w → S j n ≡ F.o
  rows_none zero S h j n l = absurd (omega arith)
  rows_none (suc w) S h zero n l = h.0 n
  rows_none (suc w) S h (suc j) n l = rows_none w (λ q. S (suc q)) h.1 j n (omega arith)

  -- w powers of y leave room for w - 1 roots of one length
  pub few_roots : (w d k : ℕ) (cs : List ℕ) (fs : List (List ℕ)) → Elements m cs → AllByRecursion (Elements m) fs → AllByRecursion (λ f. length f ≡ k) fs
      → AllByRecursion (Root m (grid w d cs)) fs → Distinct fs → Nonzero w d cs → length fs < w
  few_roots w d k cs fs h hf l r n z = elim (cases_lt (length fs) w) [ inl u ↦ u | inr u ↦ absurd (z.4 (gone u)) ]
    where
      gone : w ≤ length fs → cell w cs z.0 z.1 ≡ 0
      gone u =
          element_of_zero m laws (cell w cs z.0 z.1) (get_or-element m laws cs (z.0 * w + z.1) h)
          (sym (cells_in w d cs z.1 z.0 z.2 z.3)
          ∙ rows_none w (cells w d cs)
          (many_roots F (map embed fs) k (rows F w (cells w d cs)) (embed_distinct fs hf n) (embed_lengths k fs l) (embed_roots w d cs fs h hf r)
          (omega (arith, rows-length F w (cells w d cs), length-map fs embed)))
          z.1 z.0 z.3)
