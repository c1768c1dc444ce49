-- The first stage of the search: the polynomial laid out in a grid and divided by a power of x.
-- Assumes nothing.
use Rattle.std.proofs.Common.{◌≡◌, ℕ, zero, suc, ◌+◌, ◌-◌, ◌*◌, ◌<◌, ◌≤◌, ◌↔◌, List, [], ◌∷◌, length, get_or, take, drop, Some, None, Option, sym, refl, ap, ◌∙◌, subst, add-one, arith}
use Rattle.std.specs.List.{AllByRecursion}
use Rattle.std.proofs.ByRecursion.{All-weaker}
use Rattle.std.proofs.lemmas.List.{length-take}
use Rattle.field.specs.Meaning.{FieldMeaning, FieldLaws}
use Rattle.bivariate.specs.Bivariate.{Elements, Zeros, Root, Distinct, coefficient}
use Rattle.bivariate.specs.Grid.{cell, grid, Weighted, Nonzero}
use Rattle.bivariate.specs.Steps.{Divided}
use Rattle.bivariate.specs.Terms.{term_count, most_y, by_powers, polynomial}
use Rattle.bivariate.proofs.Coefficients.{polynomial-elements, polynomial_zeros, polynomial_weighted}
use Rattle.bivariate.proofs.Embedding.{get_or-element}
use Rattle.bivariate.proofs.GridRoots.{root_laid_out, nonzero_laid_out, root_divided, weighted_divided, few_roots}
use Rattle.decoding.specs.Roots.{RootWith, Told}
use Rattle.decoding.proofs.Advance.{from_cells, divided_elements}

-- ---- the polynomial's rows

by_powers-length : (a d k : ℕ) (cs : List ℕ) → length (by_powers a d k cs) ≡ k
by_powers-length a d zero cs = refl
by_powers-length a d (suc k) cs = ap suc (by_powers-length a (d - a) k (drop d cs))

by_powers_short : (a d e k : ℕ) (cs : List ℕ) → e ≤ d → AllByRecursion (λ row. length row ≤ d) (by_powers a e k cs)
by_powers_short a d e zero cs h = tt
by_powers_short a d e (suc k) cs h = (omega (arith, length-take e cs), by_powers_short a d (e - a) k (drop e cs) (omega arith))

coefficient-element : (m : FieldMeaning) → FieldLaws m → (Q : List (List ℕ)) (g j : ℕ) → AllByRecursion (Elements m) Q → coefficient Q g j < m.size
coefficient-element m laws [] g j h = omega (arith, laws.size_low)
coefficient-element m laws (row ∷ Q) g zero h = get_or-element m laws row g h.0
coefficient-element m laws (row ∷ Q) g (suc j) h = coefficient-element m laws Q g j h.1

-- ---- a search among other roots, which are the same

module _ (m : FieldMeaning) (Q Q' : List (List ℕ)) (same : (f : List ℕ) → Elements m f → Root m Q f ↔ Root m Q' f) where
  root_there : (k : ℕ) (f : List ℕ) → RootWith m Q k f → RootWith m Q' k f
  root_there k f r = record { coefficients = r.coefficients; elements = r.elements; root = (same f r.elements).0 r.root }

  root_here : (k : ℕ) (f : List ℕ) → RootWith m Q' k f → RootWith m Q k f
  root_here k f r = record { coefficients = r.coefficients; elements = r.elements; root = (same f r.elements).1 r.root }

  told_by : (left k : ℕ) (chosen before after : List ℕ) (r : Option ℕ)
      → Told m Q' left k chosen before after r → Told m Q left k chosen before after r
  told_by left k chosen before after (Some n) (fs, roots, written) = (
    fs,
    record {
      alone = All-weaker (λ f. RootWith m Q' left f × (get_or f 0 0 < m.size)) (λ f. RootWith m Q left f × (get_or f 0 0 < m.size)) (λ f r. (root_here left f r.0, r.1)) fs roots.alone;
      complete = λ f r l. roots.complete f (root_there left f r) l;
      once = roots.once;
    },
    written,
  )
  told_by left k chosen before after None (fs, alone, once, over) =
      (fs, All-weaker (RootWith m Q' left) (RootWith m Q left) (root_here left) fs alone, once, over)

-- ---- the first stage

-- the polynomial, which is not 0, stands in a grid of w powers of y and d powers of x
pub record LaidOut (m : FieldMeaning) (a d : ℕ) (cs : List ℕ) (w : ℕ) (stage : List ℕ) : Type 0 where
  pub weight : 1 ≤ a
  pub degree : 1 ≤ d
  pub terms : length cs ≤ term_count a d
  pub elements : Elements m cs
  pub nonzero : ¬ (Zeros cs)
  pub wide : w ≡ suc (most_y a d)
  pub sized : length stage ≡ d * w
  pub cells : (g j : ℕ) → g < d → j < w → cell w stage g j ≡ coefficient (polynomial a d cs) g j

module _ (m : FieldMeaning) (laws : FieldLaws m) (a d : ℕ) (cs : List ℕ) (w : ℕ) (stage : List ℕ) (laid : LaidOut m a d cs w stage) where
  abbrev Q : List (List ℕ)
  Q = polynomial a d cs

  rows : length Q ≤ w
  rows = omega (arith, laid.wide, by_powers-length a d (suc (most_y a d)) cs)

  short : AllByRecursion (λ row. length row ≤ d) Q
  short = by_powers_short a d d (suc (most_y a d)) cs (omega arith)

  q_elements : AllByRecursion (Elements m) Q
  q_elements = polynomial-elements m a d cs laid.elements

  stage_elements : Elements m stage
  stage_elements =
      from_cells m w d stage laid.sized (λ g j hg hj. subst (λ (x : ℕ). x < m.size) (sym (laid.cells g j hg hj)) (coefficient-element m laws Q g j q_elements))

  pub stage_nonzero : Nonzero w d stage
  stage_nonzero = nonzero_laid_out w d stage Q rows short laid.cells (λ z. laid.nonzero (polynomial_zeros a d cs laid.weight laid.degree laid.terms z))

  stage_weighted : Weighted a w d stage
  stage_weighted g j hg hj l = laid.cells g j hg hj ∙ polynomial_weighted a d cs g j l

  stage_roots : (f : List ℕ) → Elements m f → Root m Q f ↔ Root m (grid w d stage) f
  stage_roots f h = root_laid_out m laws w d stage Q f stage_elements q_elements h rows short laid.cells

  pub few : (fs : List (List ℕ)) → AllByRecursion (RootWith m Q (suc a)) fs → Distinct fs → length fs ≤ most_y a d
  few fs roots once =
      let l : length fs < w =
      few_roots m laws w d (suc a) stage fs stage_elements
      (All-weaker (RootWith m Q (suc a)) (Elements m) (λ f r. r.elements) fs roots)
      (All-weaker (RootWith m Q (suc a)) (λ f. length f ≡ suc a) (λ f r. r.coefficients) fs roots)
      (All-weaker (RootWith m Q (suc a)) (Root m (grid w d stage)) (λ f r. (stage_roots f r.elements).0 r.root) fs roots)
      once stage_nonzero in
      omega (arith, laid.wide)

  module _ (next : List ℕ) (same : length next ≡ length stage) (power : (r : ℕ) × (r < d) × Divided w d r stage next) where
    pub next_elements : Elements m next
    next_elements = divided_elements m laws w d power.0 stage next laid.sized same power.2 stage_elements

    pub next_weighted : Weighted (a + 1 - 1) w d next
    next_weighted =
        let e : a ≡ a + 1 - 1 = omega arith in
        subst (λ (v : ℕ). Weighted v w d next) e (weighted_divided a w d power.0 stage next power.2 stage_weighted)

    next_roots : (f : List ℕ) → Elements m f → Root m Q f ↔ Root m (grid w d next) f
    next_roots f h =
        let first = stage_roots f h in
        let second = root_divided m laws w d power.0 stage next f stage_elements next_elements h power.1 power.2 in
        ((λ t. second.0 (first.0 t)), λ t. first.1 (second.1 t))

    -- with all coefficients still to be chosen
    pub first_told : (path before after : List ℕ) (n : Option ℕ) → length path ≡ a + 1
        → Told m (grid w d next) (a + 1) (length path) (take (length path - (a + 1)) path) before after n → Told m Q (suc a) (suc a) [] before after n
    first_told path before after n e told =
        let one : length path ≡ suc a = e ∙ add-one a in
        let none : length path - (a + 1) ≡ 0 = omega arith in
        told_by m Q (grid w d next) next_roots (suc a) (suc a) [] before after n
        (subst (λ (k : ℕ). Told m (grid w d next) (suc a) k [] before after n) one
        (subst (λ (k : ℕ). Told m (grid w d next) k (length path) [] before after n) (add-one a)
        (subst (λ (k : ℕ). Told m (grid w d next) (a + 1) (length path) (take k path) before after n) none told)))
