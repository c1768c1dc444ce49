use mathlib.Core.Path.{refl}
use Rattle.field.specs.Meaning.{reciprocal}
use Rattle.field.specs.Binary.{product16, product256}
use Rattle.worked.proofs.worked_values_hold.Goals as goal

pub returns-clause-hold : goal.returns-clause-hold
unfolding reciprocal product16 product256
returns-clause-hold c = refl
