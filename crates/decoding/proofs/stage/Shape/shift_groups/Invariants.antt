use Rattle.std.proofs.Common.{◌≡◌, ℕ, ◌<◌, ◌≤◌, length}
use Rattle.bivariate.specs.Bivariate.{Elements}
use Rattle.bivariate.specs.Grid.{group, shifted}
use Rattle.decoding.proofs.stage.Shape.shift_groups.Given as goal

-- the groups below g are shifted, and the others as they were
abbrev pub invariant-loop-g : goal.invariant-loop-g
invariant-loop-g g l =
    let m = g.F.Field.meaning l.shift.field.now in
    (length l.cells ≡ length l.initial.cells)
    × Elements m l.cells
    × ((k : ℕ) → k < l.g → group l.self.w l.cells k ≡ shifted m l.shift.c (group l.self.w l.initial.cells k))
    × ((k : ℕ) → l.g ≤ k → group l.self.w l.cells k ≡ group l.self.w l.initial.cells k)
