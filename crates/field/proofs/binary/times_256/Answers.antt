use Rattle.std.proofs.Common.{ℕ, sym, ap, ◌∙◌, ⊎_elim, arith}
use Rattle.field.specs.Binary.{product256}
use Rattle.field.proofs.TableRules.{by_logarithms, product-zero, zero-product}
use Rattle.field.proofs.binary.times_256.Goals as goal

pub returns-then-a-eq0 : goal.returns-then-a-eq0
returns-then-a-eq0 c =
    let a = c.args.a in
    let b = c.args.b in
    ⊎_elim (λ e. sym (ap (λ (x : ℕ). product256 x b) e ∙ zero-product b (omega arith)))
    (λ e. sym (ap (product256 a) e.1 ∙ product-zero a)) c.then-a-eq0.either

pub returns : goal.returns
returns c =
    by_logarithms c.powers.result.now c.logarithms-logarithms.result.now c.powers.ensures c.logarithms-logarithms.ensures
    c.args.a c.args.b (omega arith) (omega arith) c.if-a-eq0.false c.if-b-eq0.false
