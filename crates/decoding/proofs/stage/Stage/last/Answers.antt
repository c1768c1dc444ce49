use Rattle.std.proofs.Common.{◌+◌, ◌-◌, ◌<◌, length, take, sym, subst, arith}
use Rattle.bivariate.specs.Grid.{grid}
use Rattle.decoding.specs.Roots.{Told}
use Rattle.decoding.proofs.Branches.{Standing, standing_by, standing_all, last_same, last_more, last_over}
use Rattle.decoding.proofs.stage.Stage.last.Goals as goal
use Rattle.decoding.proofs.stage.Stage.last.Goals.{then-vanishes+in_ok-enter, else-vanishes, Joined-vanishes}
use Rattle.decoding.proofs.stage.Stage.last.Given as given

-- where the search stands once it has tried c
tried : (g : given.Over) (c : Joined-vanishes g)
    → Standing (g.F.Field.meaning c.args.self.now.field.now) (grid c.args.self.now.shape.w c.args.self.now.shape.d c.args.self.now.cells.now) 1
    c.args.path.now c.args.found.now (c.loop-c.c + 1) c.if-vanishes.count c.if-vanishes.path c.if-vanishes.found
tried g c =
    let m = g.F.Field.meaning c.args.self.now.field.now in
    let s = c.args.self.now in
    let l = c.loop-c in
    let Q = grid s.shape.w s.shape.d s.cells.now in
    let path = c.args.path.now in
    let found = c.args.found.now in
    let element : l.c < m.size = omega (arith, c.loop-c-test.true, c.greatest-c-end.ensures) in
    elim c.if-vanishes.branch [
      | then-vanishes+in_ok-enter w ↦ standing_by m Q 1 path found _ _ _ _ _ _ _ w.count-is w.path-is w.found-is
          (last_more m Q path found c.requires.some l.c l.count l.path l.found element l.invariant
          (c.vanishes.ensures.yes w.if-vanishes.true) w.enter.new.room w.enter.ensures.same_length w.in_ok-enter.ensures.entered)
      | else-vanishes w ↦ standing_by m Q 1 path found _ _ _ _ _ _ _ w.count-is w.path-is w.found-is
          (last_same m Q path found c.requires.some l.c l.count l.path l.found element l.invariant (c.vanishes.ensures.no w.if-vanishes.false))
    ]

pub returns-in_err-enter-clause-told : goal.returns-in_err-enter-clause-told
returns-in_err-enter-clause-told g c =
    let m = g.F.Field.meaning c.args.self.now.field.now in
    let s = c.args.self.now in
    let l = c.loop-c in
    let element : l.c < m.size = omega (arith, c.loop-c-test.true, c.greatest-c-end.ensures) in
    subst (Told m (grid s.shape.w s.shape.d s.cells.now) 1 (length c.args.path.now) (take (length c.args.path.now - 1) c.args.path.now) c.args.found.now _) (sym c.from_residual.ensures)
    (last_over m (grid s.shape.w s.shape.d s.cells.now) c.args.path.now c.args.found.now c.requires.some l.c l.count l.path l.found element l.invariant
    (c.vanishes.ensures.yes c.if-vanishes.true) c.in_err-enter.ensures.entered)

pub loop-c-preserved : goal.loop-c-preserved
loop-c-preserved g c = tried g (goal.at.loop-c-preserved g c).Joined-vanishes

pub returns-after-vanishes-clause-told : goal.returns-after-vanishes-clause-told
returns-after-vanishes-clause-told g c =
    standing_all (g.F.Field.meaning c.args.self.now.field.now) _ 1 (omega arith) c.args.path.now c.args.found.now c.requires.some _ _ _ _ (omega (arith, c.greatest-c-end.ensures))
    (tried g (goal.at.returns-after-vanishes-clause-told g c).Joined-vanishes)
