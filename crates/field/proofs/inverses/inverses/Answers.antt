use Rattle.std.proofs.Common.{refl}
use Rattle.field.specs.Binary.{product256}
use Rattle.field.proofs.TableRules.{inverse_table}
use Rattle.field.proofs.inverses.inverses.Goals as goal

pub returns : goal.returns
unfolding product256
returns c = inverse_table _ refl refl
