use Rattle.std.proofs.Common.{arith}
use Rattle.std.proofs.lemmas.Grind.{common_steps}
use Rattle.bivariate.proofs.ValueSteps.{only_not}
use Rattle.bivariate.proofs.values.value_at.Goals as goal

pub returns-in_err-value : goal.returns-in_err-value
returns-in_err-value g c = grind (arith, common_steps, only_not)
