use Rattle.std.proofs.Common.{◌≡◌, ℕ, zero, suc, refl, eqb, rules}
use Rattle.std.specs.Bool.{then_some}
use Rattle.field.specs.Meaning.{reciprocal, inverse_answer}
use Rattle.edges.specs.Two.{two}
use Rattle.edges.proofs.TwoField.inverse.Goals as goal

two_inverse : (a : ℕ) → then_some (eqb a 1) 1 ≡ inverse_answer two a
unfolding reciprocal
two_inverse zero = refl
two_inverse (suc zero) = refl
two_inverse (suc (suc a)) = search rules

pub returns : goal.returns
returns c = let e = two_inverse c.args.a in search rules
