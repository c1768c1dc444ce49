use Rattle.std.proofs.Common.{◌≡◌, ℕ, ◌*◌, ◌<◌, ap, subst, arith}
use Rattle.bivariate.specs.Bivariate.{coefficient}
use Rattle.bivariate.specs.Grid.{cell}
use Rattle.bivariate.specs.Terms.{polynomial}
use Rattle.decoding.proofs.Inputs.{laid_out}
use Rattle.decoding.proofs.subject.Limits.lay_out.Goals as goal

pub returns-clause-cells : goal.returns-clause-cells
returns-clause-cells c =
    let t = c.args.self.terms in
    let Q = polynomial t.a t.d c.args.coefficients.now in
    subst (λ (w : ℕ). (g j : ℕ) → g < t.d → j < w → cell w c.loop-k.cells g j ≡ coefficient Q g j) c.width-w.ensures
    (laid_out c.width-w.result t.d c.loop-k.k Q c.loop-k.cells
    (omega (arith, c.loop-k-test.false, c.requires.sized, ap (λ (w : ℕ). t.d * w) c.width-w.ensures)) c.loop-k.invariant.1)
