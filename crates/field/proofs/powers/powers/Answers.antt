use Rattle.std.proofs.Common.{refl}
use Rattle.field.proofs.TableRules.{power_table}
use Rattle.field.proofs.powers.powers.Goals as goal

pub returns : goal.returns
returns c = power_table _ refl
