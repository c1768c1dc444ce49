use Rattle.std.proofs.Common.{rules, ◌≡◌, ℕ, Bool, leb, ◌∙◌}
use Rattle.std.proofs.lemmas.Iterator.{YieldsList-from_slice}
use Rattle.std.proofs.lemmas.Iterator.Search.{position_from_yields_List}
use Rattle.std.specs.List.{position}
use Rattle.bivariate.proofs.ElementTests.{position_stranger}
use Rattle.bivariate.proofs.strangers.first_stranger.Goals as goal

pub returns : goal.returns
returns g c =
    let strange : ℕ → Bool = leb c.size-size.result in
    let found : c.position.result ≡ position strange c.args.numbers.now =
    position_from_yields_List strange _ _ _ c.position.ensures.ran (YieldsList-from_slice c.args.numbers.now cc) (λ x b q k. search rules) in
    found ∙ position_stranger (g.F.Field.meaning c.args.field.now) c.args.numbers.now _ c.size-size.ensures
