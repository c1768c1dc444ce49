use Rattle.reed_solomon.proofs.PolynomialSteps.{unit_positive, top_fits, top_is}
use Rattle.reed_solomon.proofs.polynomials.Polynomials.top.Goals as goal

pub nonzero_div-result-2 : goal.nonzero_div-result-2
nonzero_div-result-2 g c =
    let p = c.args.self.now in
    rw c.size.ensures
    (unit_positive _ (g.met.F.Field.lawful p.field) p.coefficients p.count c.args.user p.coefficients_low p.counted c.requires)

pub overflow_cast-result-2 : goal.overflow_cast-result-2
overflow_cast-result-2 g c =
    let p = c.args.self.now in
    rw c.size.ensures record {
      fits = top_fits _ (g.met.F.Field.lawful p.field) p.coefficients p.count c.args.user p.coefficients_low p.counted c.requires;
    }

pub returns : goal.returns
returns g c =
    let p = c.args.self.now in
    rw c.size.ensures
    (top_is _ (g.met.F.Field.lawful p.field) p.coefficients p.count c.args.user p.coefficients_low p.counted c.requires)
