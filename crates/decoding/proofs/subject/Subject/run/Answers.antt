use Rattle.std.proofs.Common.{◌≡◌, ℕ, ◌<◌, [], suc, sym, ◌∙◌, subst}
use Rattle.bivariate.specs.Bivariate.{coefficient}
use Rattle.bivariate.specs.Grid.{cell}
use Rattle.bivariate.specs.Terms.{polynomial}
use Rattle.decoding.specs.Roots.{Told}
use Rattle.decoding.proofs.FirstStage.{LaidOut, stage_nonzero, few, next_elements, next_weighted, first_told}
use Rattle.decoding.proofs.Found.{always_some, roots_found}
use Rattle.decoding.proofs.subject.Subject.run.Goals as goal
use Rattle.decoding.proofs.subject.Subject.run.Goals.{After-lay_out, After-explore}
use Rattle.decoding.proofs.subject.Subject.run.Given as given

laid_out : (g : given.Over) (c : After-lay_out g)
    → LaidOut (g.F.Field.meaning c.args.self.now.field.now) c.args.self.now.limits.terms.a c.args.self.now.limits.terms.d c.args.self.now.coefficients.now c.width.result c.lay_out.new.cells
laid_out g c =
    let t = c.args.self.now.limits.terms in
    record {
      weight = t.weight;
      degree = t.degree;
      terms = c.args.self.now.terms;
      elements = c.args.self.now.elements;
      nonzero = c.args.self.now.nonzero;
      wide = c.width.ensures;
      sized = c.lay_out.ensures.same_length ∙ c.split_at_mut-cells.ensures.front_len;
      cells = subst (λ (w : ℕ). (g j : ℕ) → g < t.d → j < w → cell w c.lay_out.new.cells g j ≡ coefficient (polynomial t.a t.d c.args.self.now.coefficients.now) g j) (sym c.width.ensures) c.lay_out.ensures.cells;
    }

-- what exploring told, of the polynomial that was searched
told : (g : given.Over) (c : After-explore g)
    → Told (g.F.Field.meaning c.args.self.now.field.now) (polynomial c.args.self.now.limits.terms.a c.args.self.now.limits.terms.d c.args.self.now.coefficients.now)
    (suc c.args.self.now.limits.terms.a) (suc c.args.self.now.limits.terms.a) [] c.args.found.now c.explore.new.found c.explore.result
told g c =
    first_told (g.F.Field.meaning c.args.self.now.field.now) (g.met.F.Field.lawful c.args.self.now.field.now) _ _ _ _ _ (laid_out g (goal.at.After-explore g c).After-lay_out)
    c.divide.new.cells c.divide.ensures.same_length c.divide.ensures.divided
    c.split_at_mut-path.result.0.now c.args.found.now c.explore.new.found c.explore.result c.split_at_mut-path.ensures.front_len c.explore.ensures.told

pub divide-requires-clause-nonzero : goal.divide-requires-clause-nonzero
divide-requires-clause-nonzero g c =
    stage_nonzero (g.F.Field.meaning c.args.self.now.field.now) (g.met.F.Field.lawful c.args.self.now.field.now) _ _ _ _ _ (laid_out g (goal.at.divide-requires-clause-nonzero g c).After-lay_out)

pub invariant_of-stage : goal.invariant_of-stage
invariant_of-stage g c =
    let laid = laid_out g (goal.at.invariant_of-stage g c).After-lay_out in
    record {
      sized = c.divide.ensures.same_length ∙ laid.sized;
      elements = next_elements (g.F.Field.meaning c.args.self.now.field.now) (g.met.F.Field.lawful c.args.self.now.field.now) _ _ _ _ _ laid
          c.divide.new.cells c.divide.ensures.same_length c.divide.ensures.divided;
    }

pub explore-requires-clause-weighted : goal.explore-requires-clause-weighted
explore-requires-clause-weighted g c =
    next_weighted (g.F.Field.meaning c.args.self.now.field.now) (g.met.F.Field.lawful c.args.self.now.field.now) _ _ _ _ _ (laid_out g (goal.at.explore-requires-clause-weighted g c).After-lay_out)
    c.divide.new.cells c.divide.ensures.same_length c.divide.ensures.divided

pub unwrap-requires : goal.unwrap-requires
unwrap-requires g c =
    let at = goal.at.unwrap-requires g c in
    let m = g.F.Field.meaning c.args.self.now.field.now in
    let laws = g.met.F.Field.lawful c.args.self.now.field.now in
    always_some m laws _ _ _ c.args.found.now c.requires.room (few m laws _ _ _ _ _ (laid_out g at.After-lay_out)) _ _ (told g at.After-explore)

pub returns-clause-roots : goal.returns-clause-roots
returns-clause-roots g c =
    let at = goal.at.returns-clause-roots g c in
    let m = g.F.Field.meaning c.args.self.now.field.now in
    let laws = g.met.F.Field.lawful c.args.self.now.field.now in
    let t = c.args.self.now.limits.terms in
    roots_found m laws _ _ _ c.args.found.now c.requires.room (few m laws _ _ _ _ _ (laid_out g at.After-lay_out)) c.unwrap.result c.explore.new.found
    (subst (Told m (polynomial t.a t.d c.args.self.now.coefficients.now) (suc t.a) (suc t.a) [] c.args.found.now c.explore.new.found) c.unwrap.ensures (told g at.After-explore))
