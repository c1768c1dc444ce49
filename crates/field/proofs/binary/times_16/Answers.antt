use Rattle.std.proofs.Common.{◌≡◌, ℕ, ◌-◌, ◌%◌, ◌<◌, sym, refl, ap, ◌∙◌, arith, lit<}
use lib.Bits.{bit_xor, xor_lt, xor_zero_r}
use Rattle.field.specs.Binary.{shifted_sum, product16, gate}
use Rattle.field.specs.BinaryLaws.{sum_step, gate_taken, gate_left}
use Rattle.field.proofs.binary.times_16.Goals as goal
use Rattle.field.proofs.binary.times_16.Goals.{then-rest-eq1, else-rest-eq1}

pub loop-step-init : goal.loop-step-init
unfolding product16
loop-step-init c = (c.requires.0, lit< tt, refl)

pub loop-step-preserved : goal.loop-step-preserved
loop-step-preserved c =
    let l = c.loop-step in
    let added : c.if-rest-eq1.sum ≡ bit_xor l.sum (gate (l.rest % 2) l.term) =
    elim c.if-rest-eq1.branch [
      | then-rest-eq1 w ↦ gate_taken l.rest l.term _ _ w.if-rest-eq1.true w.sum-is
      | else-rest-eq1 w ↦ gate_left l.rest l.term _ _ w.if-rest-eq1.false w.sum-is
    ] in
    let closed : c.if-rest-eq1.sum < 16 =
    elim c.if-rest-eq1.branch [
      | then-rest-eq1 w ↦ rw w.sum-is (xor_lt 4 l.sum l.term l.invariant.1 l.invariant.0)
      | else-rest-eq1 w ↦ omega (arith, w.sum-is)
    ] in (
      c.shift_16-term.ensures.closed,
      closed,
      sum_step l._step l.sum l.term l.rest _ _ _ c.loop-step-test.true c.shift_16-term.ensures.value added l.invariant.2,
    )

pub returns : goal.returns
returns c =
    let l = c.loop-step in
    let done : 0 ≡ 4 - l._step = omega (arith, c.loop-step-test.false) in
    record {
      closed = l.invariant.1;
      value = sym (xor_zero_r l.sum) ∙ ap (λ (k : ℕ). bit_xor l.sum (shifted_sum 3 0x13 k l.term l.rest)) done ∙ l.invariant.2;
    }
