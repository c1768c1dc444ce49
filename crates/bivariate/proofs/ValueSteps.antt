-- The steps of a polynomial's value from its top coefficient down.
-- Assumes nothing.
use Rattle.std.proofs.Common.{◌≡◌, ℕ, ◌<◌, ◌≤◌, true, false, ◌&&◌, ltb, List, [], ◌∷◌, ◌++◌, Some, ap, ◌∙◌}
use Rattle.std.proofs.Math.Bool.{and-false}
use Rattle.std.proofs.lemmas.Bool.{cond-true, and_from, lt-ltb, le-ltb}
use Rattle.field.specs.Meaning.{FieldMeaning}
use Rattle.field.specs.Polynomial.{value_at}
use Rattle.bivariate.specs.Bivariate.{Elements}
use Rattle.bivariate.specs.Values.{elements_only, value_answer}
use Rattle.bivariate.proofs.ElementTests.{elements_only_lem}

-- What is left of the coefficients are the lower ones, and those that have been taken have this value.
pub record Taken (m : FieldMeaning) (cs : List ℕ) (x : ℕ) (rest : List ℕ) (value : ℕ) : Type 0 where
  pub upper : List ℕ
  pub whole : cs ≡ rest ++ upper
  pub only : elements_only m upper ≡ true
  pub is : value ≡ value_at m upper x
  pub element : value < m.size

-- one number that is no element is enough
pub only_not : (m : FieldMeaning) (lower : List ℕ) (c : ℕ) (upper : List ℕ) → m.size ≤ c → elements_only m (lower ++ c ∷ upper) ≡ false
only_not m [] c upper h = ap (λ t. t && elements_only m upper) (le-ltb c m.size h)
only_not m (d ∷ lower) c upper h = ap (λ t. ltb d m.size && t) (only_not m lower c upper h) ∙ and-false (ltb d m.size)

-- where all are elements, the value has an answer
pub value_answered : (m : FieldMeaning) (cs : List ℕ) (x : ℕ) → Elements m cs → x < m.size → value_answer m cs x ≡ Some (value_at m cs x)
value_answered m cs x h l = cond-true _ _ _ (and_from _ _ (lt-ltb x m.size l) (elements_only_lem m cs h))
