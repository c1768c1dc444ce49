use Rattle.std.proofs.Common.{arith}
use Rattle.decoding.proofs.Bytes.{bytes_bounded}
use Rattle.decoding.proofs.words.root_bytes.Goals as goal

pub returns-clause-few : goal.returns-clause-few
returns-clause-few c =
    let limits = c.for_word-limits in
    bytes_bounded c.args.a c.args.n (omega (arith, limits.ensures.weight, limits.result.terms.weight)) limits.result.terms.a limits.result.terms.d c.found_bytes.result c.memory_bytes.result
    (omega (arith, c.if-n-gt256.false)) limits.ensures.weight limits.ensures.bound c.found_bytes.ensures c.memory_bytes.ensures
