-- What agrees with enough points is a root in y of all that interpolates them.
-- Assumes nothing.
use Rattle.std.proofs.Common.{◌≡◌, ℕ, zero, suc, ◌+◌, ◌<◌, ◌≤◌, Bool, true, false, cond, eqb, List, [], ◌∷◌, map, length, get_or, sym, refl, ap, ◌∙◌, ap₂, arith}
use Rattle.std.specs.List.{AllByRecursion}
use Rattle.std.proofs.lemmas.Bool.{eqb-true}
use Rattle.field.specs.Meaning.{FieldMeaning, FieldLaws}
use Rattle.field.specs.Polynomial.{value_at}
use Rattle.field.proofs.Abstract.{AbstractField}
use Rattle.field.proofs.Roots.{eval, Each, Distinct}
use Rattle.field.proofs.Numbers.{Element, abstract}
use Rattle.bivariate.specs.Bivariate.{Elements, point_value, agreement, PointsOf, points_from, AgreementForcesRoot}
use Rattle.bivariate.proofs.Sequences.{co}
use Rattle.bivariate.proofs.Vanishing.{at_point, Light, vanish}
use Rattle.bivariate.proofs.Embedding.{element, element-zero, element_apart, element-sum, element-product, zero_below, value-element, embed-value, co-element, root_sequences}

-- no two points have the same x
abbrev pub DistinctPlaces : List (ℕ × ℕ) → Type 0
DistinctPlaces [] = Unit {0}
DistinctPlaces (p ∷ ps) = AllByRecursion (λ r. ¬ (r.0 ≡ p.0)) ps × DistinctPlaces ps

-- ---- the points of a word

places_apart : (x y : ℕ) (word : List ℕ) → x < y → AllByRecursion (λ r. ¬ (r.0 ≡ x)) (points_from y word)
places_apart x y [] l = tt
places_apart x y (v ∷ word) l = ((λ e. omega arith), places_apart x (suc y) word (omega arith))

pub word_places : (x : ℕ) (word : List ℕ) → DistinctPlaces (points_from x word)
word_places x [] = tt
word_places x (v ∷ word) = (places_apart x (suc x) word (omega arith), word_places (suc x) word)

pub word_points : (m : FieldMeaning) (x : ℕ) (word : List ℕ) → Elements m word → x + length word ≤ m.size → PointsOf m (points_from x word)
word_points m x [] h l = tt
word_points m x (v ∷ word) h l = ((omega arith, h.0), word_points m (suc x) word h.1 (omega arith))

module _ (m : FieldMeaning) (laws : FieldLaws m) where
  abbrev F : AbstractField
  F = abstract m laws

  -- ---- values at points

  point_element : (Q : List (List ℕ)) (x y : ℕ) → AllByRecursion (Elements m) Q → x < m.size → y < m.size → point_value m Q x y < m.size
  point_element [] x y h k l = zero_below m laws
  point_element (p ∷ Q) x y h k l =
      laws.sum_closed _ _ (value-element m laws p x h.0 k) (laws.product_closed _ _ l (point_element Q x y h.1 k l))

  embed_point : (Q : List (List ℕ)) (x y : ℕ) → AllByRecursion (Elements m) Q → x < m.size → y < m.size
      → element m laws (point_value m Q x y) ≡ at_point F (map (map (element m laws)) Q) (element m laws x) (element m laws y)
  embed_point [] x y h k l = element-zero m laws
  embed_point (p ∷ Q) x y h k l =
      element-sum m laws (value_at m p x) (m.product y (point_value m Q x y)) (value-element m laws p x h.0 k)
      (laws.product_closed y (point_value m Q x y) l (point_element Q x y h.1 k l))
      ∙ ap₂ F.◌⊕◌ (embed-value m laws p x h.0 k)
      (element-product m laws y (point_value m Q x y) l (point_element Q x y h.1 k l)
      ∙ ap (F.◌⊗◌ (element m laws y)) (embed_point Q x y h.1 k l))

  embed-row : (Q : List (List ℕ)) (j : ℕ) → get_or (map (map (element m laws)) Q) j [] ≡ map (element m laws) (get_or Q j [])
  embed-row [] j = refl
  embed-row (p ∷ Q) zero = refl
  embed-row (p ∷ Q) (suc j) = embed-row Q j

  -- ---- the places of the points at which f agrees

  abbrev keep : Bool → Element m laws → List (Element m laws) → List (Element m laws)
  keep true x xs = x ∷ xs
  keep false x xs = xs

  keep-length : (b : Bool) (x : Element m laws) (xs : List (Element m laws)) → length (keep b x xs) ≡ cond b 1 0 + length xs
  keep-length true x xs = omega arith
  keep-length false x xs = omega arith

  keep_each : (P : Element m laws → Type 0) (b : Bool) (x : Element m laws) (xs : List (Element m laws)) → (b ≡ true → P x) → Each F P xs
      → Each F P (keep b x xs)
  keep_each P true x xs h k = (h refl, k)
  keep_each P false x xs h k = k

  keep_distinct : (b : Bool) (x : Element m laws) (xs : List (Element m laws)) → Each F (λ y. ¬ (y ≡ x)) xs → Distinct F xs → Distinct F (keep b x xs)
  keep_distinct true x xs h k = (h, k)
  keep_distinct false x xs h k = k

  module _ (f : List ℕ) where
    abbrev agrees : ℕ × ℕ → Bool
    agrees p = eqb (value_at m f p.0) p.1

    abbrev places : List (ℕ × ℕ) → List (Element m laws)
    places [] = []
    places (p ∷ ps) = keep (agrees p) (element m laws p.0) (places ps)

    places-length : (ps : List (ℕ × ℕ)) → length (places ps) ≡ agreement m f ps
    places-length [] = refl
    places-length (p ∷ ps) = keep-length (agrees p) (element m laws p.0) (places ps) ∙ ap (λ (n : ℕ). cond (agrees p) 1 0 + n) (places-length ps)

    places_other : (x : ℕ) (ps : List (ℕ × ℕ)) → x < m.size → PointsOf m ps → AllByRecursion (λ r. ¬ (r.0 ≡ x)) ps
        → Each F (λ y. ¬ (y ≡ element m laws x)) (places ps)
    places_other x [] l h k = tt
    places_other x (p ∷ ps) l h k =
        keep_each (λ y. ¬ (y ≡ element m laws x)) (agrees p) (element m laws p.0) (places ps)
        (λ t e. k.0 (element_apart m laws p.0 x h.0.0 l e)) (places_other x ps l h.1 k.1)

    places_distinct : (ps : List (ℕ × ℕ)) → PointsOf m ps → DistinctPlaces ps → Distinct F (places ps)
    places_distinct [] h k = tt
    places_distinct (p ∷ ps) h k =
        keep_distinct (agrees p) (element m laws p.0) (places ps) (places_other p.0 ps h.0.0 h.1 k.0) (places_distinct ps h.1 k.1)

    places-zero : (Q : List (List ℕ)) (ps : List (ℕ × ℕ)) → Elements m f → AllByRecursion (Elements m) Q → PointsOf m ps
        → AllByRecursion (λ p. point_value m Q p.0 p.1 ≡ 0) ps
        → Each F (λ x. at_point F (map (map (element m laws)) Q) x (eval F (map (element m laws) f) x) ≡ F.o) (places ps)
    places-zero Q [] k hq h z = tt
    places-zero Q (p ∷ ps) k hq h z =
        keep_each (λ x. at_point F (map (map (element m laws)) Q) x (eval F (map (element m laws) f) x) ≡ F.o) (agrees p) (element m laws p.0) (places ps)
        (λ t. ap (at_point F (map (map (element m laws)) Q) (element m laws p.0))
        (sym (embed-value m laws f p.0 k h.0.0) ∙ ap (element m laws) (eqb-true (value_at m f p.0) p.1 t))
        ∙ sym (embed_point Q p.0 p.1 hq h.0.0 h.0.1)
        ∙ ap (element m laws) z.0 ∙ element-zero m laws)
        (places-zero Q ps k hq h.1 z.1)

  length-embed : (f : List ℕ) → length (map (element m laws) f) ≡ length f
  length-embed [] = refl
  length-embed (c ∷ f) = ap suc (length-embed f)

  pub agreement_forces_root : (points : List (ℕ × ℕ)) (f : List ℕ) → PointsOf m points → DistinctPlaces points → Elements m f
      → AgreementForcesRoot m points f
  agreement_forces_root points f h u k a d Q t l n =
      (root_sequences m laws Q f t.elements k).1
      (vanish F (map (map (element m laws)) Q) (map (element m laws) f) (places f points) a d
      (omega (arith, length-embed f)) light (places_distinct f points h u) (omega (arith, places-length f points))
      (places-zero f Q points k t.elements h t.vanishes))
    where
      light : Light F a d (map (map (element m laws)) Q)
      light j g v =
          ap (λ p. co F p g) (embed-row Q j) ∙ co-element m laws (get_or Q j []) g ∙ ap (element m laws) (t.weighted g j v) ∙ element-zero m laws
