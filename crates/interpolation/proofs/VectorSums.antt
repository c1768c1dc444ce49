-- Sums of products and sums of vectors over a field of numbers.
-- Assumes nothing.
use Rattle.std.proofs.Common.{◌≡◌, ℕ, zero, suc, ◌<◌, List, [], ◌∷◌, length, get_or, sym, refl, ap, ◌∙◌, subst, ap₂, arith}
use mathlib.Core.Path.{fst_path}
use Rattle.std.proofs.lemmas.List.{ext_get_or, nil_from_length}
use Rattle.field.specs.Meaning.{FieldMeaning, FieldLaws}
use Rattle.field.proofs.Abstract.{AbstractField, ring, mul-zero, zero-mul, add-mul, mul_assoc, mul_comm, mul-one}
use Rattle.field.proofs.Numbers.{abstract}
use Rattle.bivariate.specs.Bivariate.{Elements}
use Rattle.interpolation.specs.Staircase.{dot, plus}

-- ---- over an abstract field

module _ (F : AbstractField) where
  open F use {E, o, i, ◌⊕◌, ◌⊗◌, neg, inv}

  infixl 65 ◌⊕◌
  infixl 70 ◌⊗◌
  gather : (a x c y s t : E) → a ⊗ (x ⊕ c ⊗ y) ⊕ (s ⊕ c ⊗ t) ≡ a ⊗ x ⊕ s ⊕ c ⊗ (a ⊗ y ⊕ t)
  gather a x c y s t = simp ring

  whole : (u d : E) → ¬ (d ≡ o) → u ≡ u ⊗ inv d ⊗ d
  whole u d h =
      sym (mul-one F u) ∙ ap (λ t. u ⊗ t) (sym (F.product_inv d h) ∙ mul_comm F d (inv d)) ∙ sym (mul_assoc F u (inv d) d)

  vanish : (u d : E) → ¬ (d ≡ o) → u ⊕ neg (u ⊗ inv d) ⊗ d ≡ o
  vanish u d h =
      ap (λ t. t ⊕ neg (u ⊗ inv d) ⊗ d) (whole u d h) ∙ sym (add-mul F (u ⊗ inv d) (neg (u ⊗ inv d)) d)
      ∙ ap (λ t. t ⊗ d) (F.sum_neg (u ⊗ inv d)) ∙ zero-mul F d

-- ---- over a field of numbers

-- The products so far have this sum, and those of the numbers that are left are still to be added.
pub record Summed (m : FieldMeaning) (e v e' v' : List ℕ) (s : ℕ) : Type 0 where
  pub left : Elements m e'
  pub right : Elements m v'
  pub element : s < m.size
  pub whole : m.sum s (dot m e' v') ≡ dot m e v

module _ (m : FieldMeaning) (laws : FieldLaws m) where
  pub zero-element : 0 < m.size
  zero-element = omega (arith, laws.size_low)

  pub dot-element : (e v : List ℕ) → Elements m e → Elements m v → dot m e v < m.size
  dot-element [] v he hv = zero-element
  dot-element (a ∷ e) [] he hv = zero-element
  dot-element (a ∷ e) (x ∷ v) he hv =
      laws.sum_closed _ _ (laws.product_closed a x he.0 hv.0) (dot-element e v he.1 hv.1)

  pub value-element : (e v : List ℕ) (s : ℕ) → s ≡ dot m e v → Elements m e → Elements m v → s < m.size
  value-element e v s is he hv = subst (λ (x : ℕ). x < m.size) (sym is) (dot-element e v he hv)

  -- a sum of products, from its first on
  pub summed_none : (e v : List ℕ) → Elements m e → Elements m v → Summed m e v e v 0
  summed_none e v he hv =
      let total : dot m e v < m.size = dot-element e v he hv in
      record {
        left = he;
        right = hv;
        element = zero-element;
        whole = laws.sum_comm 0 (dot m e v) zero-element total ∙ laws.sum-zero (dot m e v) total;
      }

  module _ (e v e' v' : List ℕ) (s : ℕ) (h : Summed m e v e' v' s) where
    pub summed_more : (a x : ℕ) (es vs : List ℕ) → e' ≡ a ∷ es → v' ≡ x ∷ vs → (r : ℕ) → r ≡ m.sum s (m.product a x) → Summed m e v es vs r
    summed_more a x es vs ce cv r is =
        let he : Elements m (a ∷ es) = subst (Elements m) ce h.left in
        let hv : Elements m (x ∷ vs) = subst (Elements m) cv h.right in
        let ax : m.product a x < m.size = laws.product_closed a x he.0 hv.0 in
        record {
          left = he.1;
          right = hv.1;
          element = subst (λ (y : ℕ). y < m.size) (sym is) (laws.sum_closed s _ h.element ax);
          whole =
              ap (λ (y : ℕ). m.sum y (dot m es vs)) is
              ∙ laws.sum_assoc s (m.product a x) (dot m es vs) h.element ax (dot-element es vs he.1 hv.1)
              ∙ sym (ap₂ (λ (k l : List ℕ). m.sum s (dot m k l)) ce cv) ∙ h.whole;
        }

    ended : dot m e' v' ≡ 0 → s ≡ dot m e v
    ended z = sym (ap (m.sum s) z ∙ laws.sum-zero s h.element) ∙ h.whole

    pub summed_left : length e' ≡ 0 → s ≡ dot m e v
    summed_left z = ended (ap (λ (k : List ℕ). dot m k v') (nil_from_length e' z))

    pub summed_right : length v' ≡ 0 → s ≡ dot m e v
    summed_right z = ended (ap (dot m e') (nil_from_length v' z) ∙ dot-nothing e')
      where
        dot-nothing : (k : List ℕ) → dot m k [] ≡ 0
        dot-nothing [] = refl
        dot-nothing (a ∷ k) = refl

  pub product-zero : (c : ℕ) → c < m.size → m.product c 0 ≡ 0
  product-zero c h = fst_path (mul-zero (abstract m laws) (c, h))

  pub add_nothing : (a c : ℕ) → a < m.size → c < m.size → m.sum a (m.product c 0) ≡ a
  add_nothing a c ha hc = ap (m.sum a) (product-zero c hc) ∙ laws.sum-zero a ha

  pub cleared-zero : (u d : ℕ) → u < m.size → d < m.size → ¬ (d ≡ 0)
      → m.sum u (m.product (m.negative (m.product u (m.inverse d))) d) ≡ 0
  cleared-zero u d hu hd n = fst_path (vanish (abstract m laws) (u, hu) (d, hd) (λ e. n (fst_path e)))

  gathered : (a x c y s t : ℕ) → a < m.size → x < m.size → c < m.size → y < m.size → s < m.size → t < m.size
      → m.sum (m.product a (m.sum x (m.product c y))) (m.sum s (m.product c t)) ≡ m.sum (m.sum (m.product a x) s) (m.product c (m.sum (m.product a y) t))
  gathered a x c y s t ha hx hc hy hs ht = fst_path (gather (abstract m laws) (a, ha) (x, hx) (c, hc) (y, hy) (s, hs) (t, ht))

  module _ (c : ℕ) (hc : c < m.size) where
    pub plus-length : (v p : List ℕ) → length (plus m v c p) ≡ length v
    plus-length [] p = refl
    plus-length (x ∷ v) [] = refl
    plus-length (x ∷ v) (y ∷ p) = ap suc (plus-length v p)

    pub plus-elements : (v p : List ℕ) → Elements m v → Elements m p → Elements m (plus m v c p)
    plus-elements [] p hv hp = tt
    plus-elements (x ∷ v) [] hv hp = hv
    plus-elements (x ∷ v) (y ∷ p) hv hp =
        (laws.sum_closed _ _ hv.0 (laws.product_closed c y hc hp.0), plus-elements v p hv.1 hp.1)

    pub get_or-plus : (v p : List ℕ) (k : ℕ) → k < length v → k < length p → get_or (plus m v c p) k 0 ≡ m.sum (get_or v k 0) (m.product c (get_or p k 0))
    get_or-plus [] p k hv hp = absurd (omega arith)
    get_or-plus (x ∷ v) [] k hv hp = absurd (omega arith)
    get_or-plus (x ∷ v) (y ∷ p) zero hv hp = refl
    get_or-plus (x ∷ v) (y ∷ p) (suc k) hv hp = get_or-plus v p k (omega arith) (omega arith)

    -- a vector is this sum where each of its numbers is
    pub plus_is : (v p new : List ℕ) → length new ≡ length v → length v ≡ length p
        → ((k : ℕ) → k < length v → get_or new k 0 ≡ m.sum (get_or v k 0) (m.product c (get_or p k 0))) → new ≡ plus m v c p
    plus_is v p new long same each =
        ext_get_or 0 new (plus m v c p) (long ∙ sym (plus-length v p))
        (λ k h. let l : k < length v = omega arith in each k l ∙ sym (get_or-plus v p k l (omega arith)))

    pub dot-plus : (e v p : List ℕ) → Elements m e → Elements m v → Elements m p → length v ≡ length p
        → dot m e (plus m v c p) ≡ m.sum (dot m e v) (m.product c (dot m e p))
    dot-plus [] v p he hv hp l = sym (add_nothing 0 c zero-element hc)
    dot-plus (a ∷ e) [] [] he hv hp l = sym (add_nothing 0 c zero-element hc)
    dot-plus (a ∷ e) [] (y ∷ p) he hv hp l = absurd (omega arith)
    dot-plus (a ∷ e) (x ∷ v) [] he hv hp l = absurd (omega arith)
    dot-plus (a ∷ e) (x ∷ v) (y ∷ p) he hv hp l =
        ap (λ (t : ℕ). m.sum (m.product a (m.sum x (m.product c y))) t) (dot-plus e v p he.1 hv.1 hp.1 (omega arith))
        ∙ gathered a x c y (dot m e v) (dot m e p) he.0 hv.0 hc hp.0 (dot-element e v he.1 hv.1) (dot-element e p he.1 hp.1)

    -- a sum that is 0 where both vectors are
    pub dot-plus-zero : (e v p : List ℕ) → Elements m e → Elements m v → Elements m p → length v ≡ length p
        → dot m e v ≡ 0 → dot m e p ≡ 0 → dot m e (plus m v c p) ≡ 0
    dot-plus-zero e v p he hv hp l zv zp =
        dot-plus e v p he hv hp l ∙ ap₂ (λ (s t : ℕ). m.sum s (m.product c t)) zv zp ∙ add_nothing 0 c zero-element hc
