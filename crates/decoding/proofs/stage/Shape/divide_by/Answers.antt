use Rattle.decoding.proofs.Grids.{divided}
use Rattle.decoding.proofs.stage.Shape.divide_by.Goals as goal

pub returns-clause-divided : goal.returns-clause-divided
returns-clause-divided c =
    let turned = c.rotate_left.ensures.by_index in
    divided c.args.self.w c.args.self.d c.args.r c.args.cells.now c.rotate_left.new.self c.requires.sized c.requires.low c.requires.divides turned.0 turned.1
