use Rattle.std.proofs.Common.{ℕ, ◌+◌, ◌-◌, ◌*◌, ◌<◌, ◌≤◌, ◌↔◌, List, ◌∷◌, length, take, sym, ◌∙◌, subst, arith}
use Rattle.bivariate.specs.Bivariate.{Elements, Root}
use Rattle.bivariate.specs.Grid.{grid}
use Rattle.decoding.specs.Roots.{Told}
use Rattle.decoding.proofs.Memory.{deeper_fits, deeper_next, weighted_next}
use Rattle.decoding.proofs.Branches.{Standing, Tried, standing_none, standing_by, standing_all, standing_same, chosen_fits, path_length_below, path_below, branch_more, branch_over}
use Rattle.decoding.proofs.stage.Stage.+explore.Goals as goal
use Rattle.decoding.proofs.stage.Stage.+explore.Goals.{then-begins+in_ok-count, else-begins, After-begins, Joined-begins}
use Rattle.decoding.proofs.stage.Stage.+explore.Given as given

pub loop-c-init : goal.loop-c-init
loop-c-init g t c = (
  c.split_at_mut-next.ensures.front_len,
  deeper_fits c.args.left (length c.args.self.now.cells.now) _ _ c.requires.some c.if-left-eq1.false c.requires.room c.split_at_mut-next.ensures.back_len,
  standing_none _ _ c.args.left c.requires.some c.args.path.now c.args.found.now c.requires.fits,
)

trying : (g : given.Over) (t : ℕ) (c : After-begins g t) (next : List ℕ)
    → (let m = g.F.Field.meaning c.args.self.now.field.now in let s = c.args.self.now.shape in
    (f : List ℕ) → Elements m f → Root m (grid s.w s.d c.args.self.now.cells.now) (c.loop-c.c ∷ f) ↔ Root m (grid s.w s.d next) f)
    → Tried (g.F.Field.meaning c.args.self.now.field.now) (grid c.args.self.now.shape.w c.args.self.now.shape.d c.args.self.now.cells.now)
    (grid c.args.self.now.shape.w c.args.self.now.shape.d next) c.args.left c.args.path.now c.args.found.now c.loop-c.c c.loop-c.count c.loop-c.path c.loop-c.found
trying g t c next roots = record {
  roots = roots;
  deep = omega (arith, c.requires.some, c.if-left-eq1.false);
  fits = c.requires.fits;
  element = omega (arith, c.loop-c-test.true, c.greatest-c-end.ensures);
  state = c.loop-c.invariant.2;
}

-- where the search stands once it has tried c
tried : (g : given.Over) (t : ℕ) (c : Joined-begins g t)
    → Standing (g.F.Field.meaning c.args.self.now.field.now) (grid c.args.self.now.shape.w c.args.self.now.shape.d c.args.self.now.cells.now) c.args.left
    c.args.path.now c.args.found.now (c.loop-c.c + 1) c.if-begins.count c.if-begins.path c.if-begins.found
tried g t c =
    let m = g.F.Field.meaning c.args.self.now.field.now in
    let laws = g.met.F.Field.lawful c.args.self.now.field.now in
    let s = c.args.self.now in
    let l = c.loop-c in
    let path = c.args.path.now in
    let found = c.args.found.now in
    let Q = grid s.shape.w s.shape.d s.cells.now in
    let element : l.c < m.size = omega (arith, c.loop-c-test.true, c.greatest-c-end.ensures) in
    elim c.if-begins.branch [
      | then-begins+in_ok-count w ↦
          let told = w.explore.ensures in
          standing_by m Q c.args.left path found _ _ _ _ _ _ _ w.count-is w.path-is w.found-is
          (branch_more m laws _ _ _ _ _ _ _ _ _ (trying g t (goal.at.Joined-begins g t c).After-begins w.advance.new.next w.advance.ensures.roots)
          w.explore.new.path told.same_path.0 told.same_path.1 w.explore.new.found told.same_length _ w.in_ok-count.ensures.told)
      | else-begins w ↦
          standing_by m Q c.args.left path found _ _ _ _ _ _ _ w.count-is w.path-is w.found-is
          (standing_same m Q c.args.left c.requires.some path found c.requires.fits l.c l.count l.path l.found element l.invariant.2 (λ h _ e. c.begins.ensures.no w.if-begins.false h e))
    ]

pub explore-requires : goal.explore-requires
explore-requires g t c κs within =
    let s = c.args.self.now in
    let laws = g.met.F.Field.lawful s.field.now in
    let l = c.loop-c in (
      omega (arith, c.decreases),
      (
        within,
        (
          omega arith,
          (
            chosen_fits (g.F.Field.meaning s.field.now) laws _ _ _ _ _ _ _ _ _ (trying g t (goal.at.explore-requires g t c).After-begins c.advance.new.next c.advance.ensures.roots),
            (
              deeper_next c.args.left (length s.cells.now) _ _ (c.advance.ensures.same_length ∙ l.invariant.0) l.invariant.1,
              (
                weighted_next c.args.left s.shape.w s.shape.d s.cells.now c.advance.new.next c.requires.some c.if-left-eq1.false c.advance.ensures.weights c.requires.weighted,
                c.advance.ensures.highest,
              ),
            ),
          ),
        ),
      ),
    )

pub returns-in_err-count-clause-same_path : goal.returns-in_err-count-clause-same_path
returns-in_err-count-clause-same_path g t c =
    let m = g.F.Field.meaning c.args.self.now.field.now in
    let laws = g.met.F.Field.lawful c.args.self.now.field.now in
    let now = trying g t (goal.at.returns-in_err-count-clause-same_path g t c).After-begins c.advance.new.next c.advance.ensures.roots in
    let told = c.explore.ensures in (
      path_length_below m laws _ _ _ _ _ _ _ _ _ now c.explore.new.path told.same_path.0 told.same_path.1,
      path_below m laws _ _ _ _ _ _ _ _ _ now c.explore.new.path told.same_path.0 told.same_path.1,
    )

pub returns-in_err-count-clause-told : goal.returns-in_err-count-clause-told
returns-in_err-count-clause-told g t c =
    let m = g.F.Field.meaning c.args.self.now.field.now in
    let laws = g.met.F.Field.lawful c.args.self.now.field.now in
    let s = c.args.self.now in
    let path = c.args.path.now in
    let now = trying g t (goal.at.returns-in_err-count-clause-told g t c).After-begins c.advance.new.next c.advance.ensures.roots in
    subst (Told m (grid s.shape.w s.shape.d s.cells.now) c.args.left (length path) (take (length path - c.args.left) path) c.args.found.now _) (sym c.from_residual.ensures)
    (branch_over m laws _ _ _ _ _ _ _ _ _ now c.explore.new.path c.explore.ensures.same_path.0 c.explore.ensures.same_path.1 c.explore.new.found c.in_err-count.ensures.told)

pub loop-c-preserved : goal.loop-c-preserved
loop-c-preserved g t c = (
  c.if-begins.auto.next ∙ c.loop-c.invariant.0,
  subst (λ (n : ℕ). (c.args.left - 2) * length c.args.self.now.cells.now ≤ n) (sym c.if-begins.auto.deeper) c.loop-c.invariant.1,
  tried g t (goal.at.loop-c-preserved g t c).Joined-begins,
)

pub returns-after-begins : goal.returns-after-begins
returns-after-begins g t c =
    let m = g.F.Field.meaning c.args.self.now.field.now in
    let state = tried g t (goal.at.returns-after-begins g t c).Joined-begins in
    record {
      same_length = state.found_length;
      same_path = (state.path_length, state.chosen);
      told = standing_all m _ c.args.left c.requires.some c.args.path.now c.args.found.now c.requires.fits _ _ _ _ (omega (arith, c.greatest-c-end.ensures)) state;
    }
