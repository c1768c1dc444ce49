-- A field of numbers is an abstract field, over the numbers below its size; and what follows for polynomials over it.
-- Assumes nothing.
use Rattle.std.proofs.Common.{◌≡◌, ℕ, zero, suc, ◌+◌, ◌<◌, ◌≤◌, cond, eqb, List, [], ◌∷◌, ◌++◌, length, sym, refl, ap, ◌∙◌, ap₂, le_of_lt, arith}
use mathlib.Core.Path.{fst_path}
use mathlib.Core.HLevel.{Σ_prop_path, Σ_prop_discrete}
use native.Mathlib.Bridge.{le_prop}
use native.Mathlib.Decide.{ℕ_discrete}
use Rattle.std.proofs.lemmas.Bool.{eq-eqb, ne_eqb, cond-true, cond-false}
use Rattle.field.specs.Meaning.{FieldMeaning, FieldLaws}
use Rattle.field.specs.Polynomial.{value_at, agreements}
use Rattle.field.proofs.Abstract.{AbstractField}
use Rattle.field.proofs.Roots.{eval, Each, Distinct, common, keep_if, few_roots, drop_top}

-- each coefficient is an element
abbrev pub Below : ℕ → List ℕ → Type 0
Below q [] = Unit {0}
Below q (c ∷ cs) = (c < q) × Below q cs

module _ (m : FieldMeaning) (laws : FieldLaws m) where
  abbrev pub Element : Type 0
  Element = (n : ℕ) × (n < m.size)

  pub element_path : (u v : Element) → u.0 ≡ v.0 → u ≡ v
  element_path u v p = Σ_prop_path (λ (k : ℕ). le_prop {n = suc k} {m = m.size}) {u = u} {v = v} p

  abbrev pub abstract : AbstractField
  abstract = record {
    E = Element;
    same = Σ_prop_discrete (λ (k : ℕ). le_prop {n = suc k} {m = m.size}) ℕ_discrete;
    o = (0, le_of_lt laws.size_low);
    i = (1, laws.size_low);
    ◌⊕◌ = λ a b. (m.sum a.0 b.0, laws.sum_closed a.0 b.0 a.1 b.1);
    ◌⊗◌ = λ a b. (m.product a.0 b.0, laws.product_closed a.0 b.0 a.1 b.1);
    neg = λ a. (m.negative a.0, laws.negative_closed a.0 a.1);
    inv = λ a. (m.inverse a.0, laws.inverse_closed a.0 a.1);
    sum_assoc = λ a b c. element_path _ _ (laws.sum_assoc a.0 b.0 c.0 a.1 b.1 c.1);
    sum_comm = λ a b. element_path _ _ (laws.sum_comm a.0 b.0 a.1 b.1);
    sum-zero = λ a. element_path _ _ (laws.sum-zero a.0 a.1);
    sum_neg = λ a. element_path _ _ (laws.sum-negative a.0 a.1);
    product_assoc = λ a b c. element_path _ _ (laws.product_assoc a.0 b.0 c.0 a.1 b.1 c.1);
    product_comm = λ a b. element_path _ _ (laws.product_comm a.0 b.0 a.1 b.1);
    product-one = λ a. element_path _ _ (laws.product-one a.0 a.1);
    distributes = λ a b c. element_path _ _ (laws.distributes a.0 b.0 c.0 a.1 b.1 c.1);
    product_inv = λ a h. element_path _ _ (laws.product-inverse a.0 a.1 (λ e. h (element_path _ _ e)));
  }

  -- ---- coefficients as elements

  abbrev pub elements : (cs : List ℕ) → Below m.size cs → List Element
  elements [] h = []
  elements (c ∷ cs) h = (c, h.0) ∷ elements cs h.1

  elements-length : (cs : List ℕ) (h : Below m.size cs) → length (elements cs h) ≡ length cs
  elements-length [] h = refl
  elements-length (c ∷ cs) h = ap suc (elements-length cs h.1)

  abbrev numbers : List Element → List ℕ
  numbers [] = []
  numbers (c ∷ cs) = c.0 ∷ numbers cs

  numbers-elements : (cs : List ℕ) (h : Below m.size cs) → numbers (elements cs h) ≡ cs
  numbers-elements [] h = refl
  numbers-elements (c ∷ cs) h = ap (λ l. c ∷ l) (numbers-elements cs h.1)

  pub value-elements : (cs : List ℕ) (h : Below m.size cs) (x : Element) → (eval abstract (elements cs h) x).0 ≡ value_at m cs x.0
  value-elements [] h x = refl
  value-elements (c ∷ cs) h x = ap (λ (v : ℕ). m.sum c (m.product x.0 v)) (value-elements cs h.1 x)

  -- a value is an element
  pub value_below : (cs : List ℕ) → Below m.size cs → (x : ℕ) → x < m.size → value_at m cs x < m.size
  value_below [] h x k = omega (arith, laws.size_low)
  value_below (c ∷ cs) h x k = laws.sum_closed _ _ h.0 (laws.product_closed _ _ k (value_below cs h.1 x k))

  -- ---- the elements below n, of which all are distinct

  abbrev pub points : (n : ℕ) → n ≤ m.size → List Element
  points zero h = []
  points (suc n) h = (n, h) ∷ points n (le_of_lt h)

  points_apart : (z : Element) (n : ℕ) (h : n ≤ m.size) → n ≤ z.0 → Each abstract (λ y. ¬ (y ≡ z)) (points n h)
  points_apart z zero h l = tt
  points_apart z (suc n) h l = ((λ e. let k : n ≡ z.0 = fst_path e in omega arith), points_apart z n (le_of_lt h) (omega arith))

  pub points_distinct : (n : ℕ) (h : n ≤ m.size) → Distinct abstract (points n h)
  points_distinct zero h = tt
  points_distinct (suc n) h = (points_apart (n, h) n (le_of_lt h) (omega arith), points_distinct n (le_of_lt h))

  kept : (u v x : Element) (d : Dec (u ≡ v)) (ys : List Element) → length (keep_if abstract d x ys) ≡ length ys + cond (eqb u.0 v.0) 1 0
  kept u v x (yes p) ys = omega (arith, cond-true {A = ℕ} _ 1 0 (eq-eqb u.0 v.0 (fst_path p)))
  kept u v x (no p) ys = omega (arith, cond-false {A = ℕ} _ 1 0 (ne_eqb u.0 v.0 (λ e. p (element_path u v e))))

  counted : (f g : List ℕ) (hf : Below m.size f) (hg : Below m.size g) (n : ℕ) (h : n ≤ m.size)
      → length (common abstract (elements f hf) (elements g hg) (points n h)) ≡ agreements (value_at m f) (value_at m g) n
  counted f g hf hg zero h = refl
  counted f g hf hg (suc n) h =
      kept (eval abstract (elements f hf) (n, h)) (eval abstract (elements g hg) (n, h)) (n, h) _ _
      ∙ ap₂ ◌+◌ (counted f g hf hg n (le_of_lt h))
      (ap₂ (λ (a b : ℕ). cond (eqb a b) 1 0) (value-elements f hf (n, h)) (value-elements g hg (n, h)))

  -- two different polynomials with k coefficients agree at fewer than k of the elements below n
  pub few_agreements : (f g : List ℕ) → Below m.size f → Below m.size g → length f ≡ length g → ¬ (f ≡ g)
      → (n : ℕ) → n ≤ m.size → agreements (value_at m f) (value_at m g) n < length f
  few_agreements f g hf hg e d n h =
      omega (
        arith,
        counted f g hf hg n h,
        elements-length f hf,
        few_roots abstract (elements f hf) (elements g hg) (elements-length f hf ∙ e ∙ sym (elements-length g hg))
            (λ p. d (sym (numbers-elements f hf) ∙ ap numbers p ∙ numbers-elements g hg)) (points n h) (points_distinct n h),
      )

  -- ---- under an equal top coefficient the lower ones have equal values

  below_top : (f : List ℕ) (c : ℕ) → Below m.size f → c < m.size → Below m.size (f ++ (c ∷ []))
  below_top [] c h k = (k, tt)
  below_top (a ∷ f) c h k = (h.0, below_top f c h.1 k)

  elements_top : (f : List ℕ) (c : ℕ) (h : Below m.size f) (k : c < m.size)
      → elements (f ++ (c ∷ [])) (below_top f c h k) ≡ elements f h ++ ((c, k) ∷ [])
  unfolding below_top
  elements_top [] c h k = refl
  elements_top (a ∷ f) c h k = ap (λ l. (a, h.0) ∷ l) (elements_top f c h.1 k)

  value_top : (f : List ℕ) (c : ℕ) (h : Below m.size f) (k : c < m.size) (x : Element)
      → value_at m (f ++ (c ∷ [])) x.0 ≡ (eval abstract (elements f h ++ ((c, k) ∷ [])) x).0
  value_top f c h k x =
      sym (value-elements (f ++ (c ∷ [])) (below_top f c h k) x) ∙ ap (λ l. (eval abstract l x).0) (elements_top f c h k)

  pub values_under_top : (f g : List ℕ) (c x : ℕ) → Below m.size f → Below m.size g → c < m.size → x < m.size → length f ≡ length g
      → value_at m (f ++ (c ∷ [])) x ≡ value_at m (g ++ (c ∷ [])) x → value_at m f x ≡ value_at m g x
  values_under_top f g c x hf hg hc hx e h =
      let point : Element = (x, hx) in
      sym (value-elements f hf point)
      ∙ ap (λ (u : Element). u.0)
      (drop_top abstract (elements f hf) (elements g hg) (c, hc) point (elements-length f hf ∙ e ∙ sym (elements-length g hg))
      (element_path _ _ (sym (value_top f c hf hc point) ∙ h ∙ value_top g c hg hc point)))
      ∙ value-elements g hg point
