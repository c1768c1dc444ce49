use Rattle.decoding.proofs.Shifts.{rest_elements}
use Rattle.decoding.proofs.shift.Shift.apply.Goals as goal

pub times_linear-requires-clause-elements : goal.times_linear-requires-clause-elements
times_linear-requires-clause-elements g c =
    rest_elements _ c.args.self.now.c (g.met.F.Field.lawful c.args.self.now.field.now) c.args.self.now.element c.args.p.now c.loop-i.p c.loop-i.i
    c.requires.elements c.loop-i-test.true c.loop-i.invariant.0 c.loop-i.invariant.1
