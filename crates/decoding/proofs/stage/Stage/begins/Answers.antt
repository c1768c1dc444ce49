use Rattle.std.proofs.Common.{◌≡◌, ℕ, eqb, Some, Option, sym, ap, ◌∙◌}
use Rattle.std.proofs.lemmas.Bool.{eqb-false}
use Rattle.std.specs.Option.{option_eq}
use Rattle.field.specs.Polynomial.{value_at}
use Rattle.bivariate.specs.Grid.{group}
use Rattle.bivariate.proofs.GridRoots.{group-elements}
use Rattle.decoding.proofs.Entries.{zero_answered, first_group, no_beginning}
use Rattle.decoding.proofs.stage.Stage.begins.Goals as goal

pub returns-clause-no : goal.returns-clause-no
returns-clause-no g c =
    let m = g.F.Field.meaning c.args.self.now.field.now in
    let laws = g.met.F.Field.lawful c.args.self.now.field.now in
    let s = c.args.self.now in
    let is : c.eq.result ≡ eqb (value_at m (group s.shape.w s.cells.now 0) c.args.c) 0 =
    zero_answered m _ (group s.shape.w s.cells.now 0) c.args.c c.eq.result (first_group s.shape.w s.cells.now) (group-elements m laws s.shape.w s.cells.now 0 s.elements)
    c.requires.element (c.eq.ensures ∙ ap (λ (o : Option ℕ). option_eq eqb o (Some 0)) c.value_at.ensures) in
    λ e. no_beginning m laws s.shape.w s.shape.d c.args.c s.cells.now s.elements c.requires.element s.sized s.shape.deep (eqb-false _ _ (sym is ∙ e))
