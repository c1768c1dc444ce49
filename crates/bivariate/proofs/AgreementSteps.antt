-- The steps of a count of the positions at which a word has a polynomial's values.
-- Assumes nothing.
use Rattle.std.proofs.Common.{◌≡◌, ℕ, ◌+◌, ◌<◌, ◌≤◌, Bool, true, false, cond, eqb, List, [], ◌∷◌, length, Option, Some, refl, sym, ap, ap₂, ◌∙◌, zero-add, add-one, arith}
use Rattle.std.specs.List.{filter, enumerate_from}
use Rattle.std.specs.Option.{option_eq}
use Rattle.std.proofs.lemmas.Bool.{cond-true, and_from, le-leb}
use Rattle.field.specs.Meaning.{FieldMeaning, FieldLaws}
use Rattle.field.specs.Polynomial.{value_at}
use Rattle.bivariate.specs.Bivariate.{agreement, points_from, AgreementForcesRoot}
use Rattle.bivariate.specs.Values.{elements_only, value_answer, agreement_answer}
use Rattle.bivariate.proofs.ElementTests.{elements_from}
use Rattle.bivariate.proofs.ValueSteps.{value_answered}
use Rattle.bivariate.proofs.ForcedRoots.{agreement_forces_root, word_places, word_points}

-- ---- the count

-- whether the value at a position is the number there
abbrev pub agrees : FieldMeaning → List ℕ → ℕ × ℕ → Bool
agrees m f p = option_eq eqb (value_answer m f p.0) (Some p.1)

counted : (b : Bool) (p : ℕ × ℕ) (ps : List (ℕ × ℕ)) → length (cond b (p ∷ ps) ps) ≡ cond b 1 0 + length ps
counted true p ps = omega arith
counted false p ps = sym (zero-add (length ps))

module _ (m : FieldMeaning) (f : List ℕ) (only : true ≡ elements_only m f) where
  agrees_is : (x y : ℕ) → x < m.size → agrees m f (x, y) ≡ eqb (value_at m f x) y
  agrees_is x y h =
      ap (λ (o : Option ℕ). option_eq eqb o (Some y)) (value_answered m f x (elements_from m f (sym only)) h)

  agreed_from : (x : ℕ) (ys : List ℕ) → x + length ys ≤ m.size
      → length (filter (agrees m f) (enumerate_from x ys)) ≡ agreement m f (points_from x ys)
  agreed_from x [] h = refl
  agreed_from x (y ∷ ys) h =
      counted (agrees m f (x, y)) (x, y) (filter (agrees m f) (enumerate_from (x + 1) ys))
      ∙ ap₂ (λ (b : Bool) (n : ℕ). cond b 1 0 + n) (agrees_is x y (omega arith))
      (agreed_from (x + 1) ys (omega arith) ∙ ap (λ (n : ℕ). agreement m f (points_from n ys)) (add-one x))

  pub agreed : (ys : List ℕ) → length ys ≤ m.size → length (filter (agrees m f) (enumerate_from 0 ys)) ≡ agreement m f (points_from 0 ys)
  agreed ys h = agreed_from 0 ys (omega arith)

-- ---- the answer

module _ (m : FieldMeaning) (f word : List ℕ) (short : length word ≤ m.size) (letters : true ≡ elements_only m word) (only : true ≡ elements_only m f) where
  pub agreement_answered : (count : ℕ) → count ≡ agreement m f (points_from 0 word) → Some count ≡ agreement_answer m word f
  agreement_answered count e =
      ap Some e ∙ sym (cond-true _ _ _ (and_from _ _ (le-leb (length word) m.size short) (and_from _ _ (sym letters) (sym only))))

  pub agreement_forces : FieldLaws m → AgreementForcesRoot m (points_from 0 word) f
  agreement_forces laws =
      agreement_forces_root m laws (points_from 0 word) f (word_points m 0 word (elements_from m word (sym letters)) (omega arith)) (word_places 0 word)
      (elements_from m f (sym only))
