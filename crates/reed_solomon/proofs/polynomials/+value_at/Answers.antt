use Rattle.std.proofs.Common.{ℕ, ◌/◌, ◌%◌, ap, ◌∙◌}
use Rattle.reed_solomon.proofs.PolynomialSteps.{product_there, value_step}
use Rattle.reed_solomon.proofs.polynomials.+value_at.Goals as goal

pub unwrap-product-requires : goal.unwrap-product-requires
unwrap-product-requires g t c =
    product_there _ (g.met.F.Field.lawful c.args.field.now) c.args.k c.args.number _ _ _ c.if-k-eq0.false c.requires
    (c.lowest_digit-digit.ensures.rest ∙ ap (λ (q : ℕ). c.args.number / q) c.size.ensures) c.value_at-value.ensures _ c.product.ensures

pub returns : goal.returns
returns g t c =
    value_step _ (g.met.F.Field.lawful c.args.field.now) c.args.k c.args.number _ _ _ c.if-k-eq0.false c.requires
    (c.lowest_digit-digit.ensures.rest ∙ ap (λ (q : ℕ). c.args.number / q) c.size.ensures) c.value_at-value.ensures _ _ _ _ _
    (c.lowest_digit-digit.ensures.digit ∙ ap (λ (q : ℕ). c.args.number % q) c.size.ensures)
    c.product.ensures c.unwrap-product.ensures c.sum.ensures c.unwrap.ensures
