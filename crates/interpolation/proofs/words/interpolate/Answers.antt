use Rattle.std.proofs.Common.{length}
use Rattle.interpolation.proofs.Accepted.{Accepted, accepted}
use Rattle.interpolation.proofs.words.interpolate.Goals as goal

pub invariant_of-word : goal.invariant_of-word
invariant_of-word g c =
    let ok : Accepted (g.F.Field.meaning c.args.field.now) c.args.a c.args.word.now (length c.args.coefficients.now) (length c.args.memory.now) =
    accepted _ c.args.a c.args.word.now _ _ c.in_ok-check.ensures.0 in
    record { elements = ok.elements; places = ok.places }
