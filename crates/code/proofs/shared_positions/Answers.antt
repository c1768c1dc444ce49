use Rattle.std.proofs.Common.{rules, tests, ◌≡◌, ℕ, ◌<◌, Bool, eqb, zero-add, arith, ap, ap₂, ◌∙◌}
use Rattle.std.specs.Option.{option_eq}
use Rattle.std.proofs.lemmas.Iterator.{YieldsList-from_range}
use Rattle.std.proofs.lemmas.Iterator.Consumers.{count_from_yields_List, YieldsList-from_filter}
use Rattle.std.proofs.lemmas.List.Sums.{length-filter}
use Rattle.field.specs.Polynomial.{agreements}
use Rattle.code.specs.Meaning.{symbol_at}
use Rattle.code.specs.Counting.{agreements_listed}
use Rattle.code.specs.Symbols.{shared_counted, shared_few, symbol_in}
use Rattle.code.proofs.shared_positions.Goals as goal
use Rattle.code.proofs.shared_positions.Given as given

-- what is counted are the positions at which the closure answers yes
count_is : (g : given.Over) (c : goal.After-count-count g)
    → c.count-count.result ≡ agreements ((g.C.Code.meaning c.args.code.now).symbol c.args.u) ((g.C.Code.meaning c.args.code.now).symbol c.args.v) c.length.result
count_is g c =
    let m = g.C.Code.meaning c.args.code.now in
    let test : ℕ → Bool = λ i. option_eq eqb (symbol_at m c.args.u i) (symbol_at m c.args.v i) in
    let n : ℕ = c.length.result in
    count_from_yields_List c.filter.result c.count-count.result c.count-count.ensures.ran
    (YieldsList-from_filter _ test (YieldsList-from_range 0 n n c.filter.ensures.source (omega arith)) c.filter.ensures.closure (λ x b q k. search (rules, tests)))
    ∙ length-filter test _
    ∙ omega (
      arith,
      agreements_listed (m.symbol c.args.u) (m.symbol c.args.v) test n 0
          (λ i l.
          let inside : i < m.length = omega (arith, c.length.ensures) in
          ap₂ (option_eq eqb) (symbol_in m _ i (omega (arith, c.if-u-users.false, c.users.ensures)) inside)
          (symbol_in m _ i (omega (arith, c.if-v-users.false, c.users-else-u-users.ensures)) inside)),
      ap (agreements (m.symbol c.args.u) (m.symbol c.args.v)) (zero-add n),
    )

pub returns-clause-counted : goal.returns-clause-counted
returns-clause-counted g c =
    shared_counted (g.C.Code.meaning c.args.code.now) _ _ _ _ (omega (arith, c.if-u-users.false, c.users.ensures))
    (omega (arith, c.if-v-users.false, c.users-else-u-users.ensures)) c.length.ensures (count_is g c)

pub returns-clause-few : goal.returns-clause-few
returns-clause-few g c =
    shared_few (g.C.Code.meaning c.args.code.now) (g.met.C.Code.lawful c.args.code.now) _ _ _ _ (omega (arith, c.if-u-users.false, c.users.ensures))
    (omega (arith, c.if-v-users.false, c.users-else-u-users.ensures)) c.length.ensures (count_is g c)
