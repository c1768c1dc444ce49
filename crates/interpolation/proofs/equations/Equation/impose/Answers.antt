use Rattle.std.proofs.Common.{ℕ, List, length, arith, ◌∙◌}
use Rattle.std.proofs.lemmas.List.{length-set}
use Rattle.interpolation.proofs.ClearedVectors.{Clearing}
use Rattle.interpolation.proofs.Imposing.{imposed_staircase, imposed_solves, imposed_keeps, imposed_count}
use Rattle.interpolation.proofs.equations.Equation.impose.Goals as goal

pub returns-in-Some : goal.returns-in-Some
returns-in-Some g c =
    let m = g.F.Field.meaning c.args.self.now.field.now in
    let laws = g.met.F.Field.lawful c.args.self.now.field.now in
    let e : List ℕ = c.args.self.now.coefficients.now in
    let w : ℕ = length e in
    let old : List ℕ = c.args.vectors.now in
    let vs : List ℕ = c.clear_after.new.vectors in
    let p : ℕ = c.in-Some.p in
    let elements = c.args.self.now.elements in
    let first = c.in-Some.ensures.some in
    let h : Clearing m w p e old w vs = (c.clear_after.ensures.kept, (λ s hs l. absurd (omega arith)), (λ s hs l k. c.clear_after.ensures.cleared s hs l)) in
    record {
      staircase = imposed_staircase m laws w p e old vs c.requires elements first.within first.alive c.clear_after.auto.vectors h;
      solves = imposed_solves m laws w p e old vs c.requires elements first.within first.alive c.clear_after.auto.vectors h first.fails first.before;
      keeps = λ d hd l s. imposed_keeps m laws w p e old vs c.requires elements first.within first.alive c.clear_after.auto.vectors h d hd s;
      alive = imposed_count m laws w p e old vs c.requires elements first.within first.alive c.clear_after.auto.vectors h;
      long = length-set vs _ 0 ∙ c.clear_after.auto.vectors;
    }
