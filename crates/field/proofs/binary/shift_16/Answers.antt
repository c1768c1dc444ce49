use Rattle.std.proofs.Common.{ℕ, ◌<◌, sym, subst}
use Rattle.field.specs.BinaryLaws.{shifted_closed, shifted_high}
use Rattle.field.proofs.binary.shift_16.Goals as goal

pub returns-else-a-lt8 : goal.returns-else-a-lt8
returns-else-a-lt8 c =
    let same = shifted_high c.args.a c.if-a-lt8.false c.requires in
    record { closed = subst (λ (n : ℕ). n < 16) (sym same) (shifted_closed c.args.a c.requires); value = same }
