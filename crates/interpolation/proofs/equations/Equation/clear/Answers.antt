use Rattle.std.proofs.Common.{rules}
use Rattle.interpolation.proofs.VectorSums.{value-element}
use Rattle.interpolation.proofs.ClearedVectors.{negative-element}
use Rattle.interpolation.proofs.equations.Equation.clear.Goals as goal

pub negative_product-factor-requires-clause-first : goal.negative_product-factor-requires-clause-first
negative_product-factor-requires-clause-first g c = search (rules, value-element _ (g.met.F.Field.lawful c.args.self.now.field.now))

pub add_multiple-requires-clause-factor : goal.add_multiple-requires-clause-factor
add_multiple-requires-clause-factor g c =
    search (rules, value-element _ (g.met.F.Field.lawful c.args.self.now.field.now), negative-element _ (g.met.F.Field.lawful c.args.self.now.field.now))
