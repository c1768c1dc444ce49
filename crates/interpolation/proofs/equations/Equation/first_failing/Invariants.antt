use Rattle.std.proofs.Common.{◌≡◌, ℕ, ◌<◌, length}
use Rattle.std.specs.Iterator.Adapters.{enumerate_count}
use Rattle.interpolation.specs.Staircase.{dot, vector, Alive}
use Rattle.interpolation.proofs.Places.{Ahead}
use Rattle.interpolation.proofs.equations.Equation.first_failing.Given as goal

-- those that were passed and are alive solve the equation
abbrev pub invariant-loop-t : goal.invariant-loop-t
invariant-loop-t g l =
    let w : ℕ = length l.self.coefficients.now in
    (goal.iterator-loop-t g).can_next l.t-iterator
    × (goal.iterator-loop-t g).is_finite l.t-iterator
    × Ahead w l.vectors l.t-iterator
    × ((s : ℕ) → s < enumerate_count l.t-iterator → Alive w l.vectors s → dot (g.F.Field.meaning l.self.field.now) l.self.coefficients.now (vector w l.vectors s) ≡ 0)
