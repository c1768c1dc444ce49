use Rattle.std.proofs.Common.{◌≡◌, ℕ, ◌<◌, ◌≤◌, slice_index}
use Rattle.interpolation.proofs.equations.add_multiple.Given as goal

-- the first i numbers have c times the other vector's added, and those behind are as they were
abbrev pub invariant-loop-i : goal.invariant-loop-i
invariant-loop-i g l =
    let m = g.F.Field.meaning l.field in
    ((k : ℕ) → k < l.i → slice_index l.vector k ≡ m.sum (slice_index l.initial.vector k) (m.product l.c (slice_index l.other k)))
    × ((k : ℕ) → l.i ≤ k → slice_index l.vector k ≡ slice_index l.initial.vector k)
