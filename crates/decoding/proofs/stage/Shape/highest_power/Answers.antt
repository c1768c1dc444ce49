use Rattle.std.proofs.Common.{◌≡◌, ◌+◌, ◌*◌, ◌/◌, ◌%◌, ◌<◌, get_or, sym, ap, ◌∙◌, arith}
use Rattle.std.proofs.lemmas.Grind.{common_steps}
use Rattle.std.proofs.lemmas.Nat.{div-add-mod', mod_below}
use Rattle.decoding.proofs.Grids.{next_row}
use Rattle.decoding.proofs.stage.Shape.highest_power.Goals as goal

pub returns-clause-divides : goal.returns-clause-divides
returns-clause-divides c = λ g j hg hj.
    let n = c.unwrap.result in
    let w = c.args.self.w in
    let before : g * w + j < n = omega (arith, next_row g (n / w) w hg, div-add-mod' n w) in
    grind (arith, common_steps)

pub returns-clause-highest : goal.returns-clause-highest
returns-clause-highest c =
    let n = c.unwrap.result in
    let w = c.args.self.w in
    let there : ¬ (get_or c.args.cells.now n 0 ≡ 0) = grind (arith, common_steps) in
    (n % w, mod_below n w c.args.self.wide, λ z. there (sym (ap (λ k. get_or c.args.cells.now k 0) (div-add-mod' n w)) ∙ z))
