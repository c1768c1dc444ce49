use Rattle.std.proofs.Common.{◌∙◌, arith}
use Rattle.field.specs.ModularLaws.{power-inverse}
use Rattle.field.proofs.modular.inverse_251.Goals as goal

pub returns : goal.returns
returns c = c.power_249.ensures ∙ power-inverse c.args.a c.requires.1 (λ z. omega arith)
