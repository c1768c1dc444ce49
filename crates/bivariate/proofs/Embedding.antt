-- Polynomials over a field of numbers as polynomials over the abstract field of its elements.
-- Assumes nothing.
use Rattle.std.proofs.Common.{◌≡◌, ℕ, zero, suc, ◌<◌, ◌≤◌, ◌↔◌, List, [], ◌∷◌, map, length, get_or, sym, refl, ap, ◌∙◌, subst, ap₂, inl, inr, arith}
use mathlib.Core.Path.{fst_path}
use native.Mathlib.Decide.{dec_lt}
use Rattle.std.specs.List.{AllByRecursion}
use Rattle.std.proofs.lemmas.Bool.{cases_lt}
use Rattle.std.proofs.lemmas.List.{get_or_past}
use Rattle.std.proofs.ByRecursion.{All-get_or}
use Rattle.field.specs.Meaning.{FieldMeaning, FieldLaws}
use Rattle.field.specs.Polynomial.{value_at}
use Rattle.field.proofs.Abstract.{AbstractField, zero-add}
use Rattle.field.proofs.Roots.{eval}
use Rattle.field.proofs.Numbers.{Element, element_path, abstract, Below, value_below}
use Rattle.bivariate.specs.Bivariate.{Elements, Zeros, poly_sum, poly_scale, poly_product, composed, Root, coefficient}
use Rattle.bivariate.specs.Grid.{times_linear, shifted}
use Rattle.bivariate.proofs.Sequences.{co, value, plus, scale, times, compose, sequences, co-compose, by_same, by_zero}
use Rattle.bivariate.proofs.Substitution.{rows, lin, moved}

module _ (m : FieldMeaning) (laws : FieldLaws m) where
  abbrev pub F : AbstractField
  F = abstract m laws

  pub zero_below : 0 < m.size
  zero_below = omega (arith, laws.size_low)

  abbrev pub pick : (n : ℕ) → Dec (n < m.size) → Element m laws
  pick n (yes h) = (n, h)
  pick n (no h) = (0, zero_below)

  -- the element with this number, and 0 where there is none
  unfoldable pub element : ℕ → Element m laws
  element n = pick n (dec_lt n m.size)

  pub element-number : (n : ℕ) → n < m.size → (element n).0 ≡ n
  unfolding element
  element-number n h = on (dec_lt n m.size)
    where
      on : (d : Dec (n < m.size)) → (pick n d).0 ≡ n
      on (yes l) = refl
      on (no l) = absurd (l h)

  pub element-zero : element 0 ≡ F.o
  element-zero = element_path m laws _ _ (element-number 0 zero_below)

  pub element_apart : (a b : ℕ) → a < m.size → b < m.size → element a ≡ element b → a ≡ b
  element_apart a b h k e = sym (element-number a h) ∙ fst_path e ∙ element-number b k

  pub element_of_zero : (a : ℕ) → a < m.size → element a ≡ F.o → a ≡ 0
  element_of_zero a h e = element_apart a 0 h zero_below (e ∙ sym element-zero)

  pub element-sum : (a b : ℕ) → a < m.size → b < m.size → element (m.sum a b) ≡ F.◌⊕◌ (element a) (element b)
  element-sum a b h k =
      element_path m laws _ _
      (element-number (m.sum a b) (laws.sum_closed a b h k) ∙ sym (ap₂ m.sum (element-number a h) (element-number b k)))

  pub element-product : (a b : ℕ) → a < m.size → b < m.size → element (m.product a b) ≡ F.◌⊗◌ (element a) (element b)
  element-product a b h k =
      element_path m laws _ _
      (element-number (m.product a b) (laws.product_closed a b h k) ∙ sym (ap₂ m.product (element-number a h) (element-number b k)))

  -- ---- what is made of elements is made of elements

  sum-elements : (p q : List ℕ) → Elements m p → Elements m q → Elements m (poly_sum m p q)
  sum-elements [] q h k = k
  sum-elements (a ∷ p) [] h k = h
  sum-elements (a ∷ p) (b ∷ q) h k = (laws.sum_closed a b h.0 k.0, sum-elements p q h.1 k.1)

  scale-elements : (c : ℕ) (p : List ℕ) → c < m.size → Elements m p → Elements m (poly_scale m c p)
  scale-elements c [] l h = tt
  scale-elements c (a ∷ p) l h = (laws.product_closed c a l h.0, scale-elements c p l h.1)

  product-elements : (f q : List ℕ) → Elements m f → Elements m q → Elements m (poly_product m f q)
  product-elements f [] h k = tt
  product-elements [] (b ∷ q) h k = tt
  product-elements (c ∷ f) (b ∷ q) h k =
      sum-elements (poly_scale m c (b ∷ q)) (0 ∷ poly_product m f (b ∷ q)) (scale-elements c (b ∷ q) h.0 k)
      (zero_below, product-elements f (b ∷ q) h.1 k)

  pub composed-elements : (Q : List (List ℕ)) (f : List ℕ) → AllByRecursion (Elements m) Q → Elements m f → Elements m (composed m Q f)
  composed-elements [] f h k = tt
  composed-elements (p ∷ Q) f h k =
      sum-elements p (poly_product m f (composed m Q f)) h.0 (product-elements f (composed m Q f) k (composed-elements Q f h.1 k))

  linear-elements : (c p : ℕ) (T : List ℕ) → c < m.size → p < m.size → Elements m T → Elements m (times_linear m c p T)
  linear-elements c p [] h k l = (k, tt)
  linear-elements c p (t ∷ T) h k l =
      (laws.sum_closed p (m.product c t) k (laws.product_closed c t h l.0), linear-elements c t T h l.0 l.1)

  pub shifted-elements : (c : ℕ) (P : List ℕ) → c < m.size → Elements m P → Elements m (shifted m c P)
  shifted-elements c [] h k = tt
  shifted-elements c (p ∷ P) h k = linear-elements c p (shifted m c P) h k.0 (shifted-elements c P h k.1)

  pub below_elements : (p : List ℕ) → Elements m p → Below m.size p
  below_elements [] h = tt
  below_elements (a ∷ p) h = (h.0, below_elements p h.1)

  pub value-element : (p : List ℕ) (x : ℕ) → Elements m p → x < m.size → value_at m p x < m.size
  value-element p x h k = value_below m laws p (below_elements p h) x k

  pub get_or-element : (p : List ℕ) (n : ℕ) → Elements m p → get_or p n 0 < m.size
  get_or-element p n h =
      elim (cases_lt n (length p)) [
        | inl l ↦ All-get_or (λ c. c < m.size) p n 0 l h
        | inr l ↦ subst (λ (v : ℕ). v < m.size) (sym (get_or_past p n 0 l)) zero_below
      ]

  -- ---- the operations on lists of coefficients

  embed-sum : (p q : List ℕ) → Elements m p → Elements m q → map element (poly_sum m p q) ≡ plus F (map element p) (map element q)
  embed-sum [] q h k = refl
  embed-sum (a ∷ p) [] h k = refl
  embed-sum (a ∷ p) (b ∷ q) h k = ap₂ ◌∷◌ (element-sum a b h.0 k.0) (embed-sum p q h.1 k.1)

  embed-scale : (c : ℕ) (p : List ℕ) → c < m.size → Elements m p → map element (poly_scale m c p) ≡ scale F (element c) (map element p)
  embed-scale c [] l h = refl
  embed-scale c (a ∷ p) l h = ap₂ ◌∷◌ (element-product c a l h.0) (embed-scale c p l h.1)

  embed-product : (f q : List ℕ) → Elements m f → Elements m q → map element (poly_product m f q) ≡ times F (map element f) (map element q)
  embed-product f [] h k = refl
  embed-product [] (b ∷ q) h k = refl
  embed-product (c ∷ f) (b ∷ q) h k =
      embed-sum (poly_scale m c (b ∷ q)) (0 ∷ poly_product m f (b ∷ q)) (scale-elements c (b ∷ q) h.0 k)
      (zero_below, product-elements f (b ∷ q) h.1 k)
      ∙ ap₂ (plus F) (embed-scale c (b ∷ q) h.0 k) (ap₂ ◌∷◌ element-zero (embed-product f (b ∷ q) h.1 k))

  pub embed-composed : (Q : List (List ℕ)) (f : List ℕ) → AllByRecursion (Elements m) Q → Elements m f
      → map element (composed m Q f) ≡ compose F (map (map element) Q) (map element f)
  embed-composed [] f h k = refl
  embed-composed (p ∷ Q) f h k =
      embed-sum p (poly_product m f (composed m Q f)) h.0 (product-elements f (composed m Q f) k (composed-elements Q f h.1 k))
      ∙ ap (plus F (map element p))
      (embed-product f (composed m Q f) k (composed-elements Q f h.1 k) ∙ ap (times F (map element f)) (embed-composed Q f h.1 k))

  embed-linear : (c p : ℕ) (T : List ℕ) → c < m.size → p < m.size → Elements m T
      → map element (times_linear m c p T) ≡ lin F (element c) (element p) (map element T)
  embed-linear c p [] h k l = refl
  embed-linear c p (t ∷ T) h k l =
      ap₂ ◌∷◌
      (element-sum p (m.product c t) k (laws.product_closed c t h l.0) ∙ ap (F.◌⊕◌ (element p)) (element-product c t h l.0))
      (embed-linear c t T h l.0 l.1)

  pub embed-shifted : (c : ℕ) (P : List ℕ) → c < m.size → Elements m P → map element (shifted m c P) ≡ moved F (element c) (map element P)
  embed-shifted c [] h k = refl
  embed-shifted c (p ∷ P) h k =
      embed-linear c p (shifted m c P) h k.0 (shifted-elements c P h k.1)
      ∙ ap (lin F (element c) (element p)) (embed-shifted c P h k.1)

  pub embed-value : (p : List ℕ) (x : ℕ) → Elements m p → x < m.size → element (value_at m p x) ≡ eval F (map element p) (element x)
  embed-value [] x h k = element-zero
  embed-value (a ∷ p) x h k =
      element-sum a (m.product x (value_at m p x)) h.0 (laws.product_closed x (value_at m p x) k (value-element p x h.1 k))
      ∙ ap (F.◌⊕◌ (element a))
      (element-product x (value_at m p x) k (value-element p x h.1 k) ∙ ap (F.◌⊗◌ (element x)) (embed-value p x h.1 k))

  -- ---- coefficients

  pub co-element : (p : List ℕ) (n : ℕ) → co F (map element p) n ≡ element (get_or p n 0)
  co-element [] n = sym element-zero
  co-element (a ∷ p) zero = refl
  co-element (a ∷ p) (suc n) = co-element p n

  zeros_co : (p : List ℕ) → Zeros p → (n : ℕ) → co F (map element p) n ≡ F.o
  zeros_co [] h n = refl
  zeros_co (a ∷ p) h zero = ap element h.0 ∙ element-zero
  zeros_co (a ∷ p) h (suc n) = zeros_co p h.1 n

  co_zeros : (p : List ℕ) → Elements m p → ((n : ℕ) → co F (map element p) n ≡ F.o) → Zeros p
  co_zeros [] h z = tt
  co_zeros (a ∷ p) h z = (element_of_zero a h.0 (z 0), co_zeros p h.1 (λ n. z (suc n)))

  -- f is a root of Q if all coefficients at y = f are 0
  pub root_sequences : (Q : List (List ℕ)) (f : List ℕ) → AllByRecursion (Elements m) Q → Elements m f
      → Root m Q f ↔ ((n : ℕ) → value F (sequences F (map (map element) Q)) (map element f) n ≡ F.o)
  root_sequences Q f h k = (λ z n. sym (same n) ∙ zeros_co (composed m Q f) z n, λ z. co_zeros (composed m Q f) (composed-elements Q f h k) (λ n. same n ∙ z n))
    where
      same : (n : ℕ) → co F (map element (composed m Q f)) n ≡ value F (sequences F (map (map element) Q)) (map element f) n
      same n = ap (λ p. co F p n) (embed-composed Q f h k) ∙ co-compose F (map (map element) Q) (map element f) n

  value-rows : (Q : List (List ℕ)) (w : ℕ) (S : ℕ → ℕ → Element m laws) (f : List (Element m laws)) → length Q ≤ w
      → ((j n : ℕ) → j < w → S j n ≡ element (coefficient Q n j))
      → (n : ℕ) → value F (sequences F (map (map element) Q)) f n ≡ value F (rows F w S) f n
  value-rows [] zero S f l h n = refl
  value-rows [] (suc w) S f l h n =
      sym
      (ap₂ F.◌⊕◌ (h 0 n (omega arith) ∙ element-zero)
      (by_same F f (λ k. sym (value-rows [] w (λ j. S (suc j)) f (omega arith) (λ j q u. h (suc j) q (omega arith)) k)) n ∙ by_zero F f n)
      ∙ zero-add F F.o)
  value-rows (p ∷ Q) zero S f l h n = absurd (omega arith)
  value-rows (p ∷ Q) (suc w) S f l h n =
      ap₂ F.◌⊕◌ (co-element p n ∙ sym (h 0 n (omega arith)))
      (by_same F f (value-rows Q w (λ j. S (suc j)) f (omega arith) (λ j q u. h (suc j) q (omega arith))) n)

  -- and Q may be any rows with the same coefficients
  pub root-rows : (Q : List (List ℕ)) (w : ℕ) (S : ℕ → ℕ → Element m laws) (f : List ℕ) → AllByRecursion (Elements m) Q → Elements m f → length Q ≤ w
      → ((j n : ℕ) → j < w → S j n ≡ element (coefficient Q n j))
      → Root m Q f ↔ ((n : ℕ) → value F (rows F w S) (map element f) n ≡ F.o)
  root-rows Q w S f h k l e =
      let same : (n : ℕ) → value F (sequences F (map (map element) Q)) (map element f) n ≡ value F (rows F w S) (map element f) n
      = value-rows Q w S (map element f) l e in
      let way : Root m Q f ↔ ((n : ℕ) → value F (sequences F (map (map element) Q)) (map element f) n ≡ F.o) = root_sequences Q f h k in
      (λ z n. sym (same n) ∙ way.0 z n, λ z. way.1 (λ n. same n ∙ z n))
