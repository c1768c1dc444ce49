-- The state between two terms of an equation, and what one term more makes of it.
-- Assumes nothing.
use Rattle.std.proofs.Common.{◌≡◌, ℕ, zero, suc, ◌+◌, ◌-◌, ◌*◌, ◌<◌, ◌≤◌, List, [], ◌∷◌, ◌++◌, length, get_or, take, drop, set, sym, refl, ap, ◌∙◌, subst, ap₂, ⊎_elim, mul-zero, mul-suc, arith}
use Rattle.std.proofs.lemmas.List.{drop-drop, drop_more, length-drop, take_more, take_more_set}
use Rattle.std.proofs.lemmas.Bool.{cases_lt}
use Rattle.field.specs.Meaning.{FieldMeaning, FieldLaws}
use Rattle.bivariate.specs.Terms.{term_count, powers, monomials_from, monomials}
use Rattle.bivariate.proofs.Widths.{length-monomials}

-- `rest` is what is still to be written: `left` terms of a power of y, from `value` on, and those of the next `higher` powers.
pub record Standing (m : FieldMeaning) (a x y : ℕ) (rest : List ℕ) (value first width left : ℕ) : Type 0 where
  pub value-element : value < m.size
  pub first_element : first < m.size
  pub ended : left ≡ 0 → width ≡ 0
  pub higher : ℕ
  pub covers : width ≤ a * suc higher
  pub ahead : rest ≡ powers m x left value ++ monomials_from m a x y (width - a) higher (m.product y first)

monomials_none : (m : FieldMeaning) (a x y d k v : ℕ) → d ≡ 0 → monomials_from m a x y d k v ≡ []
monomials_none m a x y d zero v e = refl
monomials_none m a x y d (suc k) v e =
    ap₂ (λ (w : ℕ) (l : List ℕ). powers m x w v ++ l) e (monomials_none m a x y (d - a) k (m.product y v) (omega arith))

module _ (m : FieldMeaning) (laws : FieldLaws m) (a x y : ℕ) (hx : x < m.size) (hy : y < m.size) where
  module _ (rest : List ℕ) (value first width left : ℕ) (s : Standing m a x y rest value first width left) where
    -- while terms are to be written, the power of y has one
    pub standing_left : 0 < length rest → 0 < left
    standing_left h = ⊎_elim (λ (k : 0 < left). k) (λ (k : left ≤ 0). absurd (never (omega arith))) (cases_lt 0 left)
      where
        never : left ≡ 0 → ⊥
        never e =
            let none : monomials_from m a x y (width - a) s.higher (m.product y first) ≡ [] =
            monomials_none m a x y (width - a) s.higher (m.product y first) (omega (arith, s.ended e)) in
            let all : rest ≡ [] = s.ahead ∙ ap₂ (λ (w : ℕ) (l : List ℕ). powers m x w value ++ l) e none in
            omega (arith, ap length all)

    module _ (h : 0 < length rest) where
      parts : rest ≡ value ∷ (powers m x (left - 1) (m.product x value) ++ monomials_from m a x y (width - a) s.higher (m.product y first))
      parts =
          let at : left ≡ suc (left - 1) = omega (arith, standing_left h) in
          s.ahead ∙ ap (λ (w : ℕ). powers m x w value ++ monomials_from m a x y (width - a) s.higher (m.product y first)) at

      pub standing_head : (d : ℕ) → get_or rest 0 d ≡ value
      standing_head d = ap (λ (l : List ℕ). get_or l 0 d) parts

      pub standing_within : (left - 1 ≡ 0 → ⊥) → Standing m a x y (drop 1 rest) (m.product x value) first width (left - 1)
      standing_within more =
          record {
            value-element = laws.product_closed x value hx s.value-element;
            first_element = s.first_element;
            ended = λ e. absurd (more e);
            higher = s.higher;
            covers = s.covers;
            ahead = ap (drop 1) parts;
          }

      pub standing_next : left - 1 ≡ 0
          → Standing m a x y (drop 1 rest) (m.product y first) (m.product y first) (width - a) (width - a)
      standing_next e =
          by s.higher s.covers
          (ap (drop 1) parts ∙ ap (λ (w : ℕ). powers m x w (m.product x value) ++ monomials_from m a x y (width - a) s.higher (m.product y first)) e)
        where
          begun : m.product y first < m.size
          begun = laws.product_closed y first hy s.first_element

          by : (k : ℕ) → width ≤ a * suc k → drop 1 rest ≡ monomials_from m a x y (width - a) k (m.product y first)
              → Standing m a x y (drop 1 rest) (m.product y first) (m.product y first) (width - a) (width - a)
          by zero covers is =
              let none : width - a ≡ 0 = omega (arith, mul-suc a 0, mul-zero a) in
              record {
                value-element = begun;
                first_element = begun;
                ended = λ e. e;
                higher = 0;
                covers = omega arith;
                ahead = is ∙ ap (λ (w : ℕ). powers m x w (m.product y first) ++ []) (sym none);
              }
          by (suc k) covers is =
              record {
                value-element = begun;
                first_element = begun;
                ended = λ e. e;
                higher = k;
                covers = omega (arith, mul-suc a (suc k));
                ahead = is;
              }

moved : (m : FieldMeaning) (a x y : ℕ) (rest : List ℕ) (v f n l value first width left : ℕ) → v ≡ value → f ≡ first → n ≡ width → l ≡ left
    → Standing m a x y rest value first width left → Standing m a x y rest v f n l
moved m a x y rest v f n l value first width left ve fe ne le s =
    subst (λ (v : ℕ). Standing m a x y rest v f n l) (sym ve)
    (subst (λ (f : ℕ). Standing m a x y rest value f n l) (sym fe)
    (subst (λ (n : ℕ). Standing m a x y rest value first n l) (sym ne) (subst (λ (l : ℕ). Standing m a x y rest value first width l) (sym le) s)))

-- ---- by places

-- the first i terms are written, and the state is that before the next
pub record Written (m : FieldMeaning) (a d x y : ℕ) (out : List ℕ) (i value first width left : ℕ) : Type 0 where
  pub front : take i out ≡ take i (monomials m a d x y)
  pub standing : Standing m a x y (drop i (monomials m a d x y)) value first width left

module _ (m : FieldMeaning) (laws : FieldLaws m) (a d x y : ℕ) (hx : x < m.size) (hy : y < m.size) (p : 1 ≤ a) (q : 1 ≤ d) where
  module _ (out : List ℕ) (room : length out ≤ term_count a d) (i value first width left : ℕ) (w : Written m a d x y out i value first width left)
      (within : i < length out) where
    abbrev all : List ℕ
    all = monomials m a d x y

    all_long : i < length all
    all_long = omega (arith, length-monomials m a x y d p q)

    ahead_some : 0 < length (drop i all)
    ahead_some = omega (arith, length-drop i all, all_long)

    next_drop : drop 1 (drop i all) ≡ drop (i + 1) all
    next_drop = drop-drop 1 i all

    pub written_left : 1 ≤ left
    written_left = standing_left m laws a x y hx hy (drop i all) value first width left w.standing ahead_some

    written_front : take (i + 1) (set out i value) ≡ take (i + 1) all
    written_front =
        let at : get_or all i 0 ≡ value =
        sym (ap (λ (l : List ℕ). get_or l 0 0) (drop_more all i 0 all_long))
        ∙ standing_head m laws a x y hx hy (drop i all) value first width left w.standing ahead_some 0 in
        take_more_set out i value within ∙ ap₂ (λ (l : List ℕ) (v : ℕ). l ++ (v ∷ [])) w.front (sym at) ∙ sym (take_more all i 0 all_long)

    -- the next term of the same power of y
    pub written_within : (later v f n l : ℕ) → (left - 1 ≡ 0 → ⊥) → later ≡ m.product x value → v ≡ later → f ≡ first → n ≡ width → l ≡ left - 1
        → Written m a d x y (set out i value) (i + 1) v f n l
    written_within later v f n l more is ve fe ne le =
        record {
          front = written_front;
          standing = moved m a x y (drop (i + 1) all) v f n l (m.product x value) first width (left - 1) (ve ∙ is) fe ne le
              (subst (λ (r : List ℕ). Standing m a x y r (m.product x value) first width (left - 1)) next_drop
              (standing_within m laws a x y hx hy (drop i all) value first width left w.standing ahead_some more));
        }

    -- the first term of the next power of y
    pub written_next : (begun narrow v f n l : ℕ) → left - 1 ≡ 0 → begun ≡ m.product y first → narrow ≡ width - a
        → v ≡ begun → f ≡ begun → n ≡ narrow → l ≡ narrow → Written m a d x y (set out i value) (i + 1) v f n l
    written_next begun narrow v f n l last is less ve fe ne le =
        record {
          front = written_front;
          standing = moved m a x y (drop (i + 1) all) v f n l (m.product y first) (m.product y first) (width - a) (width - a) (ve ∙ is) (fe ∙ is) (ne ∙ less) (le ∙ less)
              (subst (λ (r : List ℕ). Standing m a x y r (m.product y first) (m.product y first) (width - a) (width - a)) next_drop
              (standing_next m laws a x y hx hy (drop i all) value first width left w.standing ahead_some last));
        }
