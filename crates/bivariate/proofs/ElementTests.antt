-- The test of each number of a list, whether it is an element.
-- Assumes nothing.
use Rattle.std.proofs.Common.{◌≡◌, ℕ, ◌<◌, ◌≤◌, true, cond, ltb, leb, List, [], ◌∷◌, Some, None, refl, ap, ◌∙◌, ⊎_elim, ◌+◌, zero-add, arith}
use Rattle.std.proofs.lemmas.Bool.{and_from, and_parts, lt-ltb, le-ltb, lt-leb, le-leb, ltb-true, cases_lt}
use Rattle.std.specs.List.{position, position_from}
use Rattle.std.proofs.lemmas.Iterator.Adapters.{position_from-zero}
use Rattle.std.proofs.lemmas.Grind.{common_steps}
use Rattle.field.specs.Meaning.{FieldMeaning}
use Rattle.bivariate.specs.Bivariate.{Elements}
use Rattle.bivariate.specs.Values.{elements_only, first_stranger, stranger_answer}

module _ (m : FieldMeaning) where
  pub elements_only_lem : (cs : List ℕ) → Elements m cs → elements_only m cs ≡ true
  elements_only_lem [] h = refl
  elements_only_lem (c ∷ cs) h = and_from _ _ (lt-ltb c m.size h.0) (elements_only_lem cs h.1)

  pub elements_from : (cs : List ℕ) → elements_only m cs ≡ true → Elements m cs
  elements_from [] h = tt
  elements_from (c ∷ cs) h =
      let parts = and_parts (ltb c m.size) (elements_only m cs) h in
      (ltb-true c m.size parts.0, elements_from cs parts.1)

  stranger_from : (cs : List ℕ) (i : ℕ) → position_from (leb m.size) i cs ≡ cond (elements_only m cs) None (Some (i + first_stranger m cs))
  stranger_from [] i = refl
  stranger_from (c ∷ cs) i =
      ⊎_elim
      (λ (l : c < m.size). grind (arith, common_steps, lt-ltb c m.size l, lt-leb m.size c l, stranger_from cs (i + 1)))
      (λ (l : m.size ≤ c). grind (arith, common_steps, le-ltb c m.size l, le-leb m.size c l))
      (cases_lt c m.size)

  -- the search for the first number that is none
  pub position_stranger : (cs : List ℕ) (size : ℕ) → size ≡ m.size → position (leb size) cs ≡ stranger_answer m cs
  position_stranger cs size e =
      ap (λ (n : ℕ). position (leb n) cs) e ∙ position_from-zero (leb m.size) cs ∙ stranger_from cs 0 ∙ simp zero-add
