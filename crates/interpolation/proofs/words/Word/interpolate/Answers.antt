use Rattle.std.proofs.Common.{ℕ, length, arith}
use Rattle.std.proofs.lemmas.Grind.{common_steps}
use Rattle.interpolation.proofs.ThroughPoints.{through_none, copied_interpolates}
use Rattle.interpolation.proofs.WordPoints.{points-length}
use Rattle.interpolation.proofs.words.Word.interpolate.Goals as goal

pub impose-requires-clause-begun : goal.impose-requires-clause-begun
impose-requires-clause-begun g c =
    let m = g.F.Field.meaning c.args.self.now.field.now in
    through_none m c.args.terms.a c.args.terms.d _ c.start.new.vectors (c.start.ensures.staircase m (g.met.F.Field.lawful c.args.self.now.field.now)) c.start.ensures.alive

pub unwrap-solution-requires : goal.unwrap-solution-requires
unwrap-solution-requires g c = grind (arith, common_steps, points-length, c.impose.ensures.left)

pub returns : goal.returns
returns g c =
    let w : ℕ = length c.args.out.now in
    let found = rw c.unwrap-solution.ensures at c.first_alive.ensures.alive in
    copied_interpolates (g.F.Field.meaning c.args.self.now.field.now) (g.met.F.Field.lawful c.args.self.now.field.now) c.args.terms.a c.args.terms.d w
    c.args.terms.weight c.args.terms.degree (omega (arith, c.requires.room, c.requires.terms)) _ c.impose.new.vectors c.impose.ensures
    found.0 found.1 found.2 _ c.copy_from_slice.new.self found.3 c.copy_from_slice.ensures.after
