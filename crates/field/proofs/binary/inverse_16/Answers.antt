use Rattle.field.specs.BinaryLaws.{power14-inverse}
use Rattle.field.proofs.binary.inverse_16.Goals as goal

pub returns : goal.returns
returns c =
    power14-inverse _ _ _ _ _ _ c.requires.0 c.requires.1 c.times_16.ensures.closed
    c.times_16-a2.ensures.value c.times_16-a4.ensures.value c.times_16-a8.ensures.value
    c.times_16-a12.ensures.value c.times_16.ensures.value
