use Rattle.std.proofs.Common.{◌≡◌, ℕ, suc, ◌<◌, ◌≤◌, List, length, subst, arith}
use Rattle.bivariate.specs.Bivariate.{Elements}
use Rattle.interpolation.specs.Staircase.{alive_count, Staircase, Solves}
use Rattle.interpolation.proofs.ThroughPoints.{equation_elements, through_more}
use Rattle.interpolation.proofs.points.Point.impose.Goals as goal

pub invariant_of-equation : goal.invariant_of-equation
invariant_of-equation g c =
    let m = g.F.Field.meaning c.args.self.now.field.now in
    let wide : 0 < length c.write_equation.new.out = omega (arith, c.write_equation.auto.out, c.requires.wide) in
    record {
      elements = equation_elements m (g.met.F.Field.lawful c.args.self.now.field.now) c.args.terms.a c.args.terms.d _
          c.args.terms.weight c.args.terms.degree c.requires.room c.args.self.now.x c.args.self.now.y
          c.args.self.now.place c.args.self.now.value _ c.write_equation.ensures;
      wide = wide;
    }

pub returns : goal.returns
returns g c =
    let m = g.F.Field.meaning c.args.self.now.field.now in
    let e : List ℕ = c.write_equation.new.out in
    let old : List ℕ = c.args.vectors.now in
    let vs : List ℕ = c.impose.new.vectors in
    let imposed = c.impose.ensures in
    let Imposed : ℕ → Type 0 =
    λ w. Staircase m w vs × Solves m w vs e
    × ((d : List ℕ) → Elements m d → length d ≡ w → Solves m w old d → Solves m w vs d) × (alive_count w old w ≤ suc (alive_count w vs w)) in
    let facts : Imposed (length c.args.equation.now) =
    subst Imposed c.write_equation.auto.out (imposed.staircase, imposed.solves, imposed.keeps, imposed.alive) in
    λ points known through.
    through_more m (g.met.F.Field.lawful c.args.self.now.field.now) c.args.terms.a c.args.terms.d _ c.args.terms.weight c.args.terms.degree c.requires.room
    old vs c.requires.staircase facts.0 facts.2 points c.args.self.now.x c.args.self.now.y _ c.args.self.now.place c.args.self.now.value
    c.write_equation.ensures facts.1 facts.3 known through
