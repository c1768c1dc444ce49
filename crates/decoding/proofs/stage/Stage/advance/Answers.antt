use Rattle.std.proofs.Common.{subst}
use Rattle.decoding.specs.Stages.{Shifted}
use Rattle.decoding.proofs.Advance.{Steps, still_nonzero, next_elements, next_weights, next_roots}
use Rattle.decoding.proofs.stage.Stage.advance.Goals as goal
use Rattle.decoding.proofs.stage.Stage.advance.Goals.{After-spread}
use Rattle.decoding.proofs.stage.Stage.advance.Given as given

steps : (g : given.Over) (c : After-spread g)
    → Steps (g.F.Field.meaning c.args.self.now.field.now) c.args.c c.args.self.now.shape.w c.args.self.now.shape.d c.args.self.now.cells.now c.shift_groups.new.cells c.spread.new.cells
steps g c =
    let s = c.args.self.now in
    record {
      element = c.requires.element;
      sized = s.sized;
      elements = s.elements;
      weighted = c.requires.weighted;
      shift = subst (λ l. Shifted (g.F.Field.meaning s.field.now) c.args.c s.shape.w s.shape.d l c.shift_groups.new.cells) c.copy_from_slice.ensures.after c.shift_groups.ensures.after;
      shifted_elements = c.shift_groups.ensures.elements;
      out = c.spread.ensures.after;
    }

pub divide-requires-clause-nonzero : goal.divide-requires-clause-nonzero
divide-requires-clause-nonzero g c =
    still_nonzero (g.F.Field.meaning c.args.self.now.field.now) (g.met.F.Field.lawful c.args.self.now.field.now) _ _ _ _ _ _
    (steps g (goal.at.divide-requires-clause-nonzero g c).After-spread) c.requires.nonzero

pub returns-clause-elements : goal.returns-clause-elements
returns-clause-elements g c =
    next_elements (g.F.Field.meaning c.args.self.now.field.now) (g.met.F.Field.lawful c.args.self.now.field.now) _ _ _ _ _ _
    (steps g (goal.at.returns-clause-elements g c).After-spread) c.divide.new.cells c.divide.ensures.same_length c.divide.ensures.divided

pub returns-clause-weights : goal.returns-clause-weights
returns-clause-weights g c =
    next_weights (g.F.Field.meaning c.args.self.now.field.now) (g.met.F.Field.lawful c.args.self.now.field.now) _ _ _ _ _ _
    (steps g (goal.at.returns-clause-weights g c).After-spread) c.divide.new.cells c.divide.ensures.same_length c.divide.ensures.divided

pub returns-clause-roots : goal.returns-clause-roots
returns-clause-roots g c =
    next_roots (g.F.Field.meaning c.args.self.now.field.now) (g.met.F.Field.lawful c.args.self.now.field.now) _ _ _ _ _ _
    (steps g (goal.at.returns-clause-roots g c).After-spread) c.divide.new.cells c.divide.ensures.same_length c.divide.ensures.divided
