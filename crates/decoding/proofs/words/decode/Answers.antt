use Rattle.std.proofs.Common.{length, ◌∙◌}
use Rattle.decoding.proofs.Decodes.{accepted, never_both, parts_fit, finds_on, decoded}
use Rattle.decoding.proofs.words.decode.Goals as goal

pub returns-in_err-count : goal.returns-in_err-count
returns-in_err-count g c =
    let m = g.F.Field.meaning c.args.field.now in
    let laws = g.met.F.Field.lawful c.args.field.now in
    let ok = accepted m c.args.a c.args.word.now (length c.args.found.now) (length c.args.memory.now) c.in_ok-check.ensures.0 in
    let made = c.in_ok-enough.ensures.answer.1 in
    absurd (never_both _ _ (finds_on m laws c.args.a c.args.word.now _ _ ok c.in_ok-enough.enough c.interpolate.new.coefficients made.0
    (c.interpolate.ensures.lengths.0 ∙ c.split_at_mut-coefficients.ensures.front_len) made.1 _
    (parts_fit m laws c.args.a c.args.word.now _ _ ok _ _ c.split_at_mut-coefficients.ensures.back_len c.split_at_mut-vectors.ensures.back_len))
    c.in_err-count.ensures.answer)

pub returns-clause-answer : goal.returns-clause-answer
returns-clause-answer g c =
    let m = g.F.Field.meaning c.args.field.now in
    let laws = g.met.F.Field.lawful c.args.field.now in
    let ok = accepted m c.args.a c.args.word.now (length c.args.found.now) (length c.args.memory.now) c.in_ok-check.ensures.0 in
    let made = c.in_ok-enough.ensures.answer.1 in
    let found = c.in_ok-count.ensures.answer.1 in (
      c.in_ok-check.ensures.0,
      (
        made.0,
        decoded m laws c.args.a c.args.word.now _ _ ok c.in_ok-enough.enough c.interpolate.new.coefficients made.0
            (c.interpolate.ensures.lengths.0 ∙ c.split_at_mut-coefficients.ensures.front_len) made.1 _ found.0,
        found.1,
      ),
    )
