-- The points of a word, one position after another.
-- Assumes nothing.
use Rattle.std.proofs.Common.{◌≡◌, ℕ, suc, ◌+◌, ◌<◌, ◌≤◌, List, [], ◌∷◌, ◌++◌, length, get_or, take, sym, refl, ap, ◌∙◌, subst, arith}
use Rattle.std.proofs.lemmas.List.{take_more, length-take-le}
use Rattle.std.proofs.ByRecursion.{All-take}
use Rattle.field.specs.Meaning.{FieldMeaning}
use Rattle.bivariate.specs.Bivariate.{Elements, PointsOf, points_from}
use Rattle.bivariate.proofs.ForcedRoots.{word_points}
use Rattle.interpolation.specs.Through.{Through}

-- ---- points

pub points-length : (x : ℕ) (word : List ℕ) → length (points_from x word) ≡ length word
points-length x [] = refl
points-length x (y ∷ word) = ap suc (points-length (suc x) word)

points_push : (x : ℕ) (word : List ℕ) (y k : ℕ) → k ≡ x + length word → points_from x (word ++ y ∷ []) ≡ points_from x word ++ (k, y) ∷ []
points_push x [] y k e = let at : x ≡ k = omega arith in ap (λ (n : ℕ). (n, y) ∷ []) at
points_push x (z ∷ word) y k e = ap (λ (l : List (ℕ × ℕ)). (x, z) ∷ l) (points_push (suc x) word y k (omega arith))

points_more : (word : List ℕ) (i : ℕ) → i < length word
    → points_from 0 (take (i + 1) word) ≡ points_from 0 (take i word) ++ (i, get_or word i 0) ∷ []
points_more word i h =
    ap (points_from 0) (take_more word i 0 h)
    ∙ points_push 0 (take i word) (get_or word i 0) i (omega (arith, length-take-le i word (omega arith)))

-- ---- one position more, given what imposing its point does to those before it

module _ (m : FieldMeaning) (a d v w : ℕ) (same : v ≡ w) (word : List ℕ) (elements : Elements m word) (places : length word ≤ m.size) where
  pub word_more : (old vs : List ℕ) (i : ℕ) → i < length word
      → ((points : List (ℕ × ℕ)) → PointsOf m points → Through m a d v points old → Through m a d v (points ++ (i, get_or word i 0) ∷ []) vs)
      → Through m a d w (points_from 0 (take i word)) old → Through m a d w (points_from 0 (take (i + 1) word)) vs
  word_more old vs i h step through =
      let passed : List (ℕ × ℕ) = points_from 0 (take i word) in
      let known : PointsOf m passed = word_points m 0 (take i word) (All-take (λ c. c < m.size) i word elements) (omega (arith, length-take-le i word (omega arith))) in
      let before : Through m a d v passed old = subst (λ (n : ℕ). Through m a d n passed old) (sym same) through in
      subst (λ (n : ℕ). Through m a d n (points_from 0 (take (i + 1) word)) vs) same
      (subst (λ (points : List (ℕ × ℕ)). Through m a d v points vs) (sym (points_more word i h)) (step passed known before))
