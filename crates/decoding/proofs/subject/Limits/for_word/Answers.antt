use Rattle.std.proofs.Common.{◌≡◌, arith}
use Rattle.std.proofs.lemmas.Grind.{common_steps}
use Rattle.bivariate.specs.Terms.{degree_bound}
use Rattle.bivariate.proofs.Degrees.{degree_bound_high}
use Rattle.decoding.proofs.subject.Limits.for_word.Goals as goal

pub invariant_of-result : goal.invariant_of-result
invariant_of-result c =
    let is : c.unwrap.result.d ≡ degree_bound c.args.a c.args.n = grind (arith, common_steps) in
    let same : c.unwrap.result.a ≡ c.args.a = grind (arith, common_steps) in
    record {
      light = omega (arith, same, c.requires.light);
      small = omega (arith, is, degree_bound_high c.args.a c.args.n c.requires.weight);
    }
