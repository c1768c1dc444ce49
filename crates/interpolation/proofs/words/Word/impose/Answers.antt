use Rattle.std.proofs.Common.{length}
use Rattle.interpolation.proofs.WordPoints.{word_more}
use Rattle.interpolation.proofs.words.Word.impose.Goals as goal

pub loop-x-preserved : goal.loop-x-preserved
loop-x-preserved g c =
    word_more (g.F.Field.meaning c.args.self.now.field.now) c.args.terms.a c.args.terms.d (length c.loop-x.equation) (length c.args.equation.now)
    c.loop-x.auto.equation c.args.self.now.numbers.now c.args.self.now.elements c.args.self.now.places c.loop-x.vectors c.impose.new.vectors
    c.loop-x.x c.loop-x-test.true c.impose.ensures c.loop-x.invariant
