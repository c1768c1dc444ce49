use Rattle.decoding.proofs.Grids.{groups_more}
use Rattle.decoding.proofs.stage.Shape.shift_groups.Goals as goal

pub loop-g-preserved : goal.loop-g-preserved
loop-g-preserved g c =
    groups_more _ (g.met.F.Field.lawful c.args.shift.now.field.now) c.args.shift.now.c c.args.self.w c.args.self.d c.loop-g.g c.args.shift.now.element c.args.cells.now c.loop-g.cells
    c.requires.sized c.loop-g-test.true c.loop-g.invariant.0 c.loop-g.invariant.1 _ c.apply.ensures.after c.loop-g.invariant.2 c.loop-g.invariant.3
