use Rattle.std.proofs.Common.{arith}
use Rattle.bivariate.proofs.CoefficientSteps.{power_more, powers_out, coefficients_out, coefficient_read, coefficient_wide, coefficient_past}
use Rattle.bivariate.proofs.terms.Terms.coefficient.Goals as goal
use Rattle.bivariate.proofs.terms.Terms.coefficient.Goals.{then-width-self-via-then-width-self, then-width-self-via-else-width-self+then-coefficients-start}
use Rattle.bivariate.proofs.terms.Terms.coefficient.Goals.{else-g-width-via-then-g-width+else-g-coefficients, else-g-width-via-else-g-width}

pub returns-then-width-self : goal.returns-then-width-self
returns-then-width-self c =
    let l = c.loop-power in
    elim c.then-width-self.branch [
      | then-width-self-via-then-width-self w ↦
          powers_out _ _ _ _ _ c.args.self.now.weight c.args.self.now.degree _ _ _ l.invariant.0 l.invariant.1 c.loop-power-test.true w.if-width-self.true
      | then-width-self-via-else-width-self+then-coefficients-start w ↦
          coefficients_out _ _ _ _ _ c.args.self.now.weight c.args.self.now.degree _ _ _ l.invariant.0 l.invariant.1 c.loop-power-test.true w.if-coefficients-start.true
    ]

pub loop-power-preserved : goal.loop-power-preserved
loop-power-preserved c =
    power_more _ _ c.args.coefficients.now _ _ _ c.loop-power.invariant.0 c.loop-power.invariant.1 (omega arith) (omega arith)

pub returns-then-g-coefficients : goal.returns-then-g-coefficients
returns-then-g-coefficients c =
    let l = c.loop-power in
    coefficient_read _ _ _ _ _ c.args.self.now.weight c.args.self.now.degree _ _ _ l.invariant.0 l.invariant.1 (omega arith) (omega arith)

pub returns-else-g-width : goal.returns-else-g-width
returns-else-g-width c =
    let l = c.loop-power in
    elim c.else-g-width.branch [
      | else-g-width-via-then-g-width+else-g-coefficients w ↦
          coefficient_past _ _ _ _ _ c.args.self.now.weight c.args.self.now.degree _ _ _ l.invariant.0 l.invariant.1 (omega arith) w.if-g-width.true w.if-g-coefficients.false
      | else-g-width-via-else-g-width w ↦
          coefficient_wide _ _ _ _ _ c.args.self.now.weight c.args.self.now.degree _ _ _ l.invariant.0 l.invariant.1 (omega arith) w.if-g-width.false
    ]
