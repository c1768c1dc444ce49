use Rattle.decoding.proofs.Shifts.{LinearUpTo}
use Rattle.decoding.proofs.shift.Shift.times_linear.Given as goal

abbrev pub invariant-loop-i : goal.invariant-loop-i
invariant-loop-i g l = LinearUpTo (g.F.Field.meaning l.self.field.now) l.self.c l.initial.p l.i l.p
