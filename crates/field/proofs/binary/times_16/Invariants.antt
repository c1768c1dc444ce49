use Rattle.std.proofs.Common.{◌≡◌, ◌-◌, ◌<◌}
use lib.Bits.{bit_xor}
use Rattle.field.specs.Binary.{shifted_sum, product16}
use Rattle.field.proofs.binary.times_16.Given as goal

-- the sum so far and what the coefficients that are left add to it
abbrev pub invariant-loop-step : goal.invariant-loop-step
invariant-loop-step l =
    (l.term < 16) × (l.sum < 16) × (bit_xor l.sum (shifted_sum 3 0x13 (4 - l._step) l.term l.rest) ≡ product16 l.initial.term l.initial.rest)
