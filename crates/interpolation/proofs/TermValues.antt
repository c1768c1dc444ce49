-- The values of all terms at a point, times the coefficients, are the polynomial's value there.
-- Assumes nothing.
use Rattle.std.proofs.Common.{◌≡◌, ℕ, zero, suc, ◌-◌, ◌<◌, ◌≤◌, List, [], ◌∷◌, ◌++◌, length, take, drop, sym, refl, ap, ◌∙◌, arith}
use Rattle.std.specs.List.{AllByRecursion}
use Rattle.std.proofs.ByRecursion.{All-append, All-take, All-drop}
use Rattle.field.specs.Meaning.{FieldMeaning, FieldLaws}
use Rattle.field.specs.Polynomial.{value_at}
use Rattle.field.proofs.Abstract.{AbstractField, ring, mul-zero, one-mul}
use Rattle.field.proofs.Numbers.{Element, abstract}
use Rattle.bivariate.specs.Bivariate.{Elements, point_value}
use Rattle.bivariate.specs.Terms.{most_y, by_powers, polynomial, powers, monomials_from, monomials}
use Rattle.bivariate.proofs.Coefficients.{by_powers_each, polynomial-elements}
use Rattle.interpolation.specs.Staircase.{dot}

module _ (F : AbstractField) where
  open F use {E, o, ◌⊕◌, ◌⊗◌}

  infixl 65 ◌⊕◌
  infixl 70 ◌⊗◌
  in_row : (c x u s t : E) → c ⊗ u ⊕ (x ⊗ c ⊗ s ⊕ t) ≡ c ⊗ (u ⊕ x ⊗ s) ⊕ t
  in_row c x u s t = simp ring

  no_row : (c t : E) → c ⊗ o ⊕ t ≡ t
  no_row c t = simp ring

  next_row : (c y s t : E) → c ⊗ s ⊕ y ⊗ c ⊗ t ≡ c ⊗ (s ⊕ y ⊗ t)
  next_row c y s t = simp ring

-- only as many numbers count as the other list has
pub dot-take : (m : FieldMeaning) (n : ℕ) (e v : List ℕ) → length v ≤ n → dot m (take n e) v ≡ dot m e v
dot-take m zero [] v h = refl
dot-take m zero (a ∷ e) [] h = refl
dot-take m zero (a ∷ e) (x ∷ v) h = absurd (omega arith)
dot-take m (suc n) [] v h = refl
dot-take m (suc n) (a ∷ e) [] h = refl
dot-take m (suc n) (a ∷ e) (x ∷ v) h = ap (m.sum (m.product a x)) (dot-take m n e v (omega arith))

dot_nil : (m : FieldMeaning) (e : List ℕ) → dot m e [] ≡ 0
dot_nil m [] = refl
dot_nil m (a ∷ e) = refl

module _ (m : FieldMeaning) (laws : FieldLaws m) where
  abbrev number : Element m laws → ℕ
  number e = e.0

  zero-element : 0 < m.size
  zero-element = omega (arith, laws.size_low)

  pub value_closed : (cs : List ℕ) (x : ℕ) → Elements m cs → x < m.size → value_at m cs x < m.size
  value_closed [] x h k = zero-element
  value_closed (c ∷ cs) x h k = laws.sum_closed _ _ h.0 (laws.product_closed _ _ k (value_closed cs x h.1 k))

  pub point_value_closed : (Q : List (List ℕ)) (x y : ℕ) → AllByRecursion (Elements m) Q → x < m.size → y < m.size → point_value m Q x y < m.size
  point_value_closed [] x y h hx hy = zero-element
  point_value_closed (p ∷ Q) x y h hx hy =
      laws.sum_closed _ _ (value_closed p x h.0 hx) (laws.product_closed _ _ hy (point_value_closed Q x y h.1 hx hy))

  pub dot_closed : (e v : List ℕ) → Elements m e → Elements m v → dot m e v < m.size
  dot_closed [] v h k = zero-element
  dot_closed (a ∷ e) [] h k = zero-element
  dot_closed (a ∷ e) (x ∷ v) h k = laws.sum_closed _ _ (laws.product_closed _ _ h.0 k.0) (dot_closed e v h.1 k.1)

  pub powers-elements : (x : ℕ) → x < m.size → (k v : ℕ) → v < m.size → Elements m (powers m x k v)
  powers-elements x hx zero v h = tt
  powers-elements x hx (suc k) v h = (h, powers-elements x hx k (m.product x v) (laws.product_closed x v hx h))

  -- ---- the values of the terms, which are elements, times the coefficients

  module _ (a x y : ℕ) (hx : x < m.size) (hy : y < m.size) where
    pub monomials_from-elements : (d k v : ℕ) → v < m.size → Elements m (monomials_from m a x y d k v)
    monomials_from-elements d zero v h = tt
    monomials_from-elements d (suc k) v h =
        All-append _ (powers m x d v) _ (powers-elements x hx d v h)
        (monomials_from-elements (d - a) k (m.product y v) (laws.product_closed y v hy h))

    pub monomials-elements : (d : ℕ) → Elements m (monomials m a d x y)
    monomials-elements d = monomials_from-elements d (suc (most_y a d)) 1 laws.size_low

    dot-row : (w c : ℕ) (r v : List ℕ) → c < m.size → Elements m r → Elements m v
        → dot m (powers m x w c ++ r) v ≡ m.sum (m.product c (value_at m (take w v) x)) (dot m r (drop w v))
    dot-row zero c r v hc hr hv = sym (ap number (no_row (abstract m laws) (c, hc) (dot m r v, dot_closed r v hr hv)))
    dot-row (suc w) c r [] hc hr hv =
        sym (ap number (no_row (abstract m laws) (c, hc) (dot m r [], dot_closed r [] hr hv)) ∙ dot_nil m r)
    dot-row (suc w) c r (u ∷ v) hc hr hv =
        ap (m.sum (m.product c u)) (dot-row w (m.product x c) r v (laws.product_closed x c hx hc) hr hv.1)
        ∙ ap number
        (in_row (abstract m laws) (c, hc) (x, hx) (u, hv.0) (value_at m (take w v) x, value_closed (take w v) x (All-take _ w v hv.1) hx)
        (dot m r (drop w v), dot_closed r (drop w v) hr (All-drop _ w v hv.1)))

    dot-rows : (d k c : ℕ) (v : List ℕ) → c < m.size → Elements m v
        → dot m (monomials_from m a x y d k c) v ≡ m.product c (point_value m (by_powers a d k v) x y)
    dot-rows d zero c v hc hv = sym (ap number (mul-zero (abstract m laws) (c, hc)))
    dot-rows d (suc k) c v hc hv =
        let more = monomials_from m a x y (d - a) k (m.product y c) in
        let hyc : m.product y c < m.size = laws.product_closed y c hy hc in
        let others = by_powers a (d - a) k (drop d v) in
        dot-row d c more v hc (monomials_from-elements (d - a) k (m.product y c) hyc) hv
        ∙ ap (m.sum (m.product c (value_at m (take d v) x))) (dot-rows (d - a) k (m.product y c) (drop d v) hyc (All-drop _ d v hv))
        ∙ ap number
        (next_row (abstract m laws) (c, hc) (y, hy) (value_at m (take d v) x, value_closed (take d v) x (All-take _ d v hv) hx)
        (point_value m others x y, point_value_closed others x y (by_powers_each (λ c. c < m.size) a (d - a) k (drop d v) (All-drop _ d v hv)) hx hy))

    pub dot-monomials : (d n : ℕ) (cs : List ℕ) → Elements m cs → length cs ≤ n
        → dot m (take n (monomials m a d x y)) cs ≡ point_value m (polynomial a d cs) x y
    dot-monomials d n cs h l =
        let Q = polynomial a d cs in
        dot-take m n (monomials m a d x y) cs l
        ∙ dot-rows d (suc (most_y a d)) 1 cs laws.size_low h
        ∙ ap number (one-mul (abstract m laws) (point_value m Q x y, point_value_closed Q x y (polynomial-elements m a d cs h) hx hy))
