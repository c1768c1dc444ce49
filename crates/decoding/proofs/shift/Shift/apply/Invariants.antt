use Rattle.std.proofs.Common.{◌≡◌, ◌≤◌, ◌++◌, length, take, drop}
use Rattle.bivariate.specs.Grid.{shifted}
use Rattle.decoding.proofs.shift.Shift.apply.Given as goal

-- the coefficients from i on are shifted, as a polynomial of their own
abbrev pub invariant-loop-i : goal.invariant-loop-i
invariant-loop-i g l =
    (l.i ≤ length l.initial.p)
    × (l.p ≡ take l.i l.initial.p ++ shifted (g.F.Field.meaning l.self.field.now) l.self.c (drop l.i l.initial.p))
