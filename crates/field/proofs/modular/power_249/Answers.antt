use Rattle.field.specs.ModularLaws.{power_step, power-one}
use Rattle.field.proofs.modular.power_249.Goals as goal

pub returns : goal.returns
returns c =
    let a = c.args.a in
    let p1 = power-one a c.requires in
    let p2 = power_step a 1 1 _ _ _ p1 p1 c.times-a2.ensures in
    let p3 = power_step a 2 1 _ _ _ p2 p1 c.times-a3.ensures in
    let p6 = power_step a 3 3 _ _ _ p3 p3 c.times-a6.ensures in
    let p12 = power_step a 6 6 _ _ _ p6 p6 c.times-a12.ensures in
    let p15 = power_step a 12 3 _ _ _ p12 p3 c.times-a15.ensures in
    let p30 = power_step a 15 15 _ _ _ p15 p15 c.times-a30.ensures in
    let p31 = power_step a 30 1 _ _ _ p30 p1 c.times-a31.ensures in
    let p62 = power_step a 31 31 _ _ _ p31 p31 c.times-a62.ensures in
    let p124 = power_step a 62 62 _ _ _ p62 p62 c.times-a124.ensures in
    let p248 = power_step a 124 124 _ _ _ p124 p124 c.times-a248.ensures in
    power_step a 248 1 _ _ _ p248 p1 c.times.ensures
