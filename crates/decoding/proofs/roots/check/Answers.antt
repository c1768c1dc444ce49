use Rattle.std.proofs.Common.{◌≡◌, true, sym, ◌∙◌, arith, rules}
use borrow.Author.Tests.{tests}
use Rattle.bivariate.specs.Values.{elements_only}
use Rattle.bivariate.proofs.ElementTests.{elements_from}
use Rattle.decoding.proofs.Inputs.{not_zeros}
use Rattle.decoding.proofs.roots.check.Goals as goal

pub invariant_of-result : goal.invariant_of-result
invariant_of-result g c =
    let m = g.F.Field.meaning c.args.field.now in
    let cs = c.args.coefficients.now in
    let all : elements_only m cs ≡ true = search (rules, tests) in
    record {
      terms = omega (arith, c.if-coefficients-term_count.false, c.term_count.ensures);
      elements = elements_from m cs all;
      nonzero = not_zeros cs (sym c.only_zeros.ensures ∙ c.if-only_zeros.false);
    }
