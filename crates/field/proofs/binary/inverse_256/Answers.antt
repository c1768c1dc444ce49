use Rattle.std.proofs.Common.{arith}
use Rattle.field.proofs.TableRules.{inverse_entry}
use Rattle.field.proofs.binary.inverse_256.Goals as goal

pub returns : goal.returns
returns c = inverse_entry c.inverses.result.now c.inverses.ensures c.args.a c.requires (omega arith)
