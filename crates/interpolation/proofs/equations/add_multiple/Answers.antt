use Rattle.std.proofs.Common.{arith}
use Rattle.interpolation.proofs.VectorSums.{plus_is}
use Rattle.interpolation.proofs.equations.add_multiple.Goals as goal

pub returns : goal.returns
returns g c =
    plus_is (g.F.Field.meaning c.args.field.now) (g.met.F.Field.lawful c.args.field.now) c.args.c c.requires.factor c.args.vector.now c.args.other.now _
    c.loop-i.auto.vector c.requires.sized (λ k h. c.loop-i.invariant.0 k (omega arith))
