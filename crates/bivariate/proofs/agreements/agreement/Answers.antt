use Rattle.std.proofs.Common.{rules, tests, ◌≡◌, ◌≤◌, ℕ, Bool, length, arith, ◌∙◌}
use Rattle.std.proofs.lemmas.Iterator.{YieldsList-from_slice}
use Rattle.std.proofs.lemmas.Iterator.Consumers.{count_from_yields_List, YieldsList-from_enumerate, YieldsList-from_filter}
use Rattle.bivariate.specs.Bivariate.{agreement, points_from}
use Rattle.bivariate.proofs.AgreementSteps.{agrees, agreed, agreement_answered, agreement_forces}
use Rattle.bivariate.proofs.agreements.agreement.Goals as goal
use Rattle.bivariate.proofs.agreements.agreement.Given as given

-- what is counted are the positions at which the closure answers yes
count_is : (g : given.Over) (c : goal.After-count-count g)
    → c.count-count.result ≡ agreement (g.F.Field.meaning c.args.field.now) c.args.coefficients.now (points_from 0 c.args.word.now)
count_is g c =
    let m = g.F.Field.meaning c.args.field.now in
    let word = c.args.word.now in
    let f = c.args.coefficients.now in
    let test : ℕ × ℕ → Bool = agrees m f in
    count_from_yields_List c.filter.result c.count-count.result c.count-count.ensures.ran
    (YieldsList-from_filter _ test (YieldsList-from_enumerate (YieldsList-from_slice word cc) cc) c.filter.ensures.closure (λ x b q k. search (rules, tests)))
    ∙ agreed m f c.if-not-elements_only-2.ensures word (omega (arith, c.if-word-size.false, c.size.ensures))

pub returns-clause-answer : goal.returns-clause-answer
returns-clause-answer g c =
    let m = g.F.Field.meaning c.args.field.now in
    let word = c.args.word.now in
    let short : length word ≤ m.size = omega (arith, c.if-word-size.false, c.size.ensures) in
    agreement_answered m c.args.coefficients.now word short c.if-not-elements_only.ensures c.if-not-elements_only-2.ensures _ (count_is g c)

pub returns-clause-forces_root : goal.returns-clause-forces_root
returns-clause-forces_root g c =
    let m = g.F.Field.meaning c.args.field.now in
    let word = c.args.word.now in
    agreement_forces m c.args.coefficients.now word (omega (arith, c.if-word-size.false, c.size.ensures)) c.if-not-elements_only.ensures c.if-not-elements_only-2.ensures
    (g.met.F.Field.lawful c.args.field.now)
