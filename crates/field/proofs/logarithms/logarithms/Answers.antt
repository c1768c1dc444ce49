use Rattle.std.proofs.Common.{refl}
use Rattle.field.proofs.TableRules.{logarithm_table}
use Rattle.field.proofs.logarithms.logarithms.Goals as goal

pub returns : goal.returns
returns c = logarithm_table _ refl
