use Rattle.std.proofs.Common.{arith}
use Rattle.decoding.proofs.Shifts.{linear-all}
use Rattle.decoding.proofs.shift.Shift.times_linear.Goals as goal

pub returns : goal.returns
returns g c = record {
  after = linear-all (g.F.Field.meaning c.args.self.now.field.now) c.args.self.now.c c.args.p.now c.loop-i.p c.loop-i.i c.requires.some
      (omega (arith, c.loop-i.auto.i-end, c.loop-i-test.false)) c.loop-i.invariant;
}
