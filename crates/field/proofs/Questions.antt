-- What answers to a field's questions say.
-- Assumes nothing.
use Rattle.std.proofs.Common.{◌≡◌, ℕ, ◌<◌, Some, ◌∙◌}
use Rattle.std.proofs.lemmas.Bool.{lt-ltb, and_from, cond-true}
use Rattle.field.specs.Meaning.{FieldMeaning, pair_answer}

module _ (m : FieldMeaning) (op : ℕ → ℕ → ℕ) (a b : ℕ) (ha : a < m.size) (hb : b < m.size) where
  -- a question about two elements has an answer
  pub pair_answered : pair_answer m op a b ≡ Some (op a b)
  pair_answered = cond-true _ _ _ (and_from _ _ (lt-ltb _ _ ha) (lt-ltb _ _ hb))

  pub pair_some : (s : ℕ) → Some s ≡ pair_answer m op a b → s ≡ op a b
  pair_some s e = let k : Some s ≡ Some (op a b) = e ∙ pair_answered in cc
