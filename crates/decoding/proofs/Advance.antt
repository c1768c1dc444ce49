-- What the steps of a stage, one after the other, do to the roots.
-- Assumes nothing.
use Rattle.std.proofs.Common.{◌≡◌, ℕ, zero, suc, ◌+◌, ◌-◌, ◌*◌, ◌/◌, ◌%◌, ◌<◌, ◌≤◌, ◌↔◌, List, ◌∷◌, length, get_or, drop, sym, ap, ◌∙◌, subst, mul_comm, mul-zero, arith}
use native.Mathlib.Decide.{dec_le}
use Rattle.std.proofs.lemmas.List.{get_or-take, get_or-drop}
use Rattle.std.proofs.ByRecursion.{All-get_or, All-from_get_or}
use Rattle.std.proofs.lemmas.Nat.{mul-add-lt, div-add-mod', div_below, mod_below}
use Rattle.field.specs.Meaning.{FieldMeaning, FieldLaws}
use Rattle.bivariate.specs.Bivariate.{Elements, Root}
use Rattle.bivariate.specs.Grid.{cell, group, grid, Weighted, Nonzero}
use Rattle.bivariate.specs.Steps.{Divided}
use Rattle.bivariate.proofs.GridRoots.{Substituted, root_divided, root_substituted, weighted_divided, weighted_substituted, nonzero_substituted}
use Rattle.decoding.specs.Stages.{Shifted, Spread}

-- a number of a group is one of the grid
group-cell : (w : ℕ) (cs : List ℕ) (g j : ℕ) → j < w → get_or (group w cs g) j 0 ≡ cell w cs g j
group-cell w cs g j h = get_or-take w (drop (g * w) cs) j 0 h ∙ get_or-drop (g * w) cs j 0

-- each coefficient of a grid of elements is one
cell_below : (m : FieldMeaning) → FieldLaws m → (w d : ℕ) (cs : List ℕ) → length cs ≡ d * w → Elements m cs → (g j : ℕ) → g < d → j < w
    → cell w cs g j < m.size
cell_below m laws w d cs e h g j hg hj = All-get_or (λ x. x < m.size) cs (g * w + j) 0 (omega (arith, mul-add-lt g w j d hg hj)) h

-- where each coefficient is an element, all numbers are
pub from_cells : (m : FieldMeaning) (w d : ℕ) (cs : List ℕ) → length cs ≡ d * w → ((g j : ℕ) → g < d → j < w → cell w cs g j < m.size) → Elements m cs
from_cells m w d cs e h = All-from_get_or (λ x. x < m.size) cs 0 at_place
  where
    wide : (k v : ℕ) → k < d * v → 0 < v
    wide k zero l = absurd (omega (arith, mul-zero d))
    wide k (suc v) l = omega arith

    at_place : (k : ℕ) → k < length cs → get_or cs k 0 < m.size
    at_place k l =
        let within : k < d * w = omega arith in
        subst (λ (i : ℕ). get_or cs i 0 < m.size) (div-add-mod' k w)
        (h (k / w) (k % w) (div_below k w d (wide k w within) within) (mod_below k w (wide k w within)))

-- what is divided by a power of x keeps its elements
pub divided_elements : (m : FieldMeaning) → FieldLaws m → (w d r : ℕ) (cs next : List ℕ) → length cs ≡ d * w → length next ≡ length cs → Divided w d r cs next
    → Elements m cs → Elements m next
divided_elements m laws w d r cs next sized same divided h =
    from_cells m w d next (same ∙ sized) (λ g j hg hj. by g j hg hj (dec_le (suc (g + r)) d))
  where
    by : (g j : ℕ) → g < d → j < w → Dec (g + r < d) → cell w next g j < m.size
    by g j hg hj (yes l) = subst (λ (x : ℕ). x < m.size) (sym (divided.moved g j hg hj l)) (cell_below m laws w d cs sized h (g + r) j l hj)
    by g j hg hj (no l) = subst (λ (x : ℕ). x < m.size) (sym (divided.cleared g j hg hj (omega arith))) (omega (arith, laws.size_low))

-- a stage of elements, with y + c in the place of y, and then with x·y in the place of y
pub record Steps (m : FieldMeaning) (c w d : ℕ) (stage moved spread : List ℕ) : Type 0 where
  pub element : c < m.size
  pub sized : length stage ≡ d * w
  pub elements : Elements m stage
  pub weighted : Weighted 1 w d stage
  pub shift : Shifted m c w d stage moved
  pub shifted_elements : Elements m moved
  pub out : Spread w d moved spread

module _ (m : FieldMeaning) (laws : FieldLaws m) (c w d : ℕ) (stage moved spread : List ℕ) (steps : Steps m c w d stage moved spread) where
  size : length stage ≡ w * d
  size = steps.sized ∙ mul_comm d w

  -- shifting by c and then moving up is putting c + x·y for y
  pub substituted : Substituted m c w d stage spread
  substituted = record {
    moved = λ g j hg hj l.
        steps.out.moved g j hg hj l ∙ sym (group-cell w moved (g - j) j hj)
        ∙ ap (λ (p : List ℕ). get_or p j 0) (steps.shift.groups (g - j) (omega arith));
    cleared = steps.out.emptied;
  }

  pub still_nonzero : Nonzero w d stage → Nonzero w d spread
  still_nonzero = nonzero_substituted m laws w d c stage spread steps.elements steps.element size steps.weighted substituted

  module _ (next : List ℕ) (same : length next ≡ length spread) (power : (r : ℕ) × (r < d) × Divided w d r spread next) where
    spread_sized : length spread ≡ d * w
    spread_sized = steps.out.same_length ∙ steps.shift.same_length ∙ steps.sized

    spread-elements : Elements m spread
    spread-elements =
        from_cells m w d spread spread_sized (λ g j hg hj. by g j hg hj (dec_le j g))
      where
        by : (g j : ℕ) → g < d → j < w → Dec (j ≤ g) → cell w spread g j < m.size
        by g j hg hj (yes l) =
            subst (λ (x : ℕ). x < m.size) (sym (steps.out.moved g j hg hj l))
            (cell_below m laws w d moved (steps.shift.same_length ∙ steps.sized) steps.shifted_elements (g - j) j (omega arith) hj)
        by g j hg hj (no l) = subst (λ (x : ℕ). x < m.size) (sym (steps.out.emptied g j hg hj (omega arith))) (omega (arith, laws.size_low))

    pub next_elements : Elements m next
    next_elements = divided_elements m laws w d power.0 spread next spread_sized same power.2 spread-elements

    pub next_weights : (v : ℕ) → Weighted (suc v) w d stage → Weighted v w d next
    next_weights v h =
        weighted_divided v w d power.0 spread next power.2 (weighted_substituted m laws v w d c stage spread steps.elements steps.element size h substituted)

    pub next_roots : (f : List ℕ) → Elements m f → Root m (grid w d stage) (c ∷ f) ↔ Root m (grid w d next) f
    next_roots f hf =
        let first = root_substituted m laws w d c stage spread f steps.elements spread-elements steps.element hf size steps.weighted substituted in
        let second = root_divided m laws w d power.0 spread next f spread-elements next_elements hf power.1 power.2 in
        ((λ t. second.0 (first.0 t)), λ t. first.1 (second.1 t))
