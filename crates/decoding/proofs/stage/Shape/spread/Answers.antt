use Rattle.std.proofs.Common.{arith}
use Rattle.decoding.proofs.Grids.{spread_more, spread-all}
use Rattle.decoding.proofs.stage.Shape.spread.Goals as goal
use Rattle.decoding.proofs.stage.Shape.spread.Goals.{then-g-j, else-g-j}

pub loop-k-preserved : goal.loop-k-preserved
loop-k-preserved c = (
  omega (arith, c.loop-k.invariant.0),
  elim c.if-g-j.branch [
    | then-g-j w ↦ spread_more c.args.self.w _ c.args.cells.now c.loop-k.cells c.loop-k.k c.if-g-j.cells c.loop-k-test.true
        c.loop-k.invariant.0 c.requires.sized c.loop-k.invariant.1 (λ h. w.cells-is) (λ h. absurd (omega (arith, w.if-g-j.true)))
    | else-g-j w ↦ spread_more c.args.self.w _ c.args.cells.now c.loop-k.cells c.loop-k.k c.if-g-j.cells c.loop-k-test.true
        c.loop-k.invariant.0 c.requires.sized c.loop-k.invariant.1 (λ h. absurd (omega (arith, w.if-g-j.false))) (λ h. w.cells-is)
  ],
)

pub returns : goal.returns
returns c = record { after = spread-all c.args.self.w c.args.self.d c.loop-k.k c.args.cells.now c.loop-k.cells c.loop-k-test.false c.loop-k.invariant.1 }
