-- What imposing one point more leaves, and what a vector that is alive has when all points are imposed.
-- Assumes nothing.
use Rattle.std.proofs.Common.{◌≡◌, ℕ, suc, ◌<◌, ◌≤◌, List, [], ◌∷◌, ◌++◌, length, take, sym, refl, ap, ◌∙◌, subst, arith}
use Rattle.std.specs.List.{AllByRecursion}
use Rattle.std.proofs.lemmas.List.{length-take-le, length_push}
use Rattle.std.proofs.ByRecursion.{All-get_or, All-take, All-push}
use Rattle.field.specs.Meaning.{FieldMeaning, FieldLaws}
use Rattle.bivariate.specs.Bivariate.{Elements, Zeros, PointsOf, point_value, Interpolates}
use Rattle.bivariate.specs.Terms.{term_count, polynomial, monomials}
use Rattle.bivariate.proofs.Widths.{length-monomials}
use Rattle.bivariate.proofs.Coefficients.{polynomial-elements, polynomial_zeros, polynomial_weighted}
use Rattle.interpolation.specs.Staircase.{dot, vector, Alive, alive_count, Staircase, Solves}
use Rattle.interpolation.specs.Through.{Through}
use Rattle.interpolation.proofs.Places.{vector-entry, vector-length, vector-elements}
use Rattle.interpolation.proofs.TermValues.{monomials-elements, dot-monomials}

-- the staircase before the first point
pub through_none : (m : FieldMeaning) (a d w : ℕ) (vs : List ℕ) → Staircase m w vs → alive_count w vs w ≡ w → Through m a d w [] vs
through_none m a d w vs stair count = record { staircase = stair; vanish = λ t ht alive. tt; left = omega arith }

module _ (m : FieldMeaning) (laws : FieldLaws m) (a d w : ℕ) (weight : 1 ≤ a) (degree : 1 ≤ d) (room : w ≤ term_count a d) where
  -- ---- the equation of a point

  module _ (x y : ℕ) (hx : x < m.size) (hy : y < m.size) (e : List ℕ) (is : e ≡ take w (monomials m a d x y)) where
    pub equation_elements : Elements m e
    equation_elements =
        subst (Elements m) (sym is) (All-take (λ c. c < m.size) w (monomials m a d x y) (monomials-elements m laws a x y hx hy d))

    pub equation_length : length e ≡ w
    equation_length =
        ap length is ∙ length-take-le w (monomials m a d x y) (omega (arith, length-monomials m a x y d weight degree))

    equation_value : (vs : List ℕ) → Staircase m w vs → (t : ℕ) → t < w → dot m e (vector w vs t) ≡ point_value m (polynomial a d (vector w vs t)) x y
    equation_value vs stair t ht =
        ap (λ (l : List ℕ). dot m l (vector w vs t)) is
        ∙ dot-monomials m laws a x y hx hy d w (vector w vs t) (vector-elements w vs stair.sized m t stair.elements)
        (omega (arith, vector-length w vs stair.sized t ht))

  -- ---- one point more

  module _ (old vs : List ℕ) (was : Staircase m w old) (stair : Staircase m w vs)
      (keeps : (e : List ℕ) → Elements m e → length e ≡ w → Solves m w old e → Solves m w vs e) where
    abbrev Vanish : List ℕ → ℕ → List (ℕ × ℕ) → Type 0
    Vanish us t points = AllByRecursion (λ p. point_value m (polynomial a d (vector w us t)) p.0 p.1 ≡ 0) points

    still : (points : List (ℕ × ℕ)) → PointsOf m points → ((t : ℕ) → t < w → Alive w old t → Vanish old t points)
        → (t : ℕ) → t < w → Alive w vs t → Vanish vs t points
    still [] h vanish t ht alive = tt
    still (p ∷ points) h vanish t ht alive =
        let e : List ℕ = take w (monomials m a d p.0 p.1) in
        let solves : Solves m w old e = λ s hs live. equation_value p.0 p.1 h.0.0 h.0.1 e refl old was s hs ∙ (vanish s hs live).0 in (
          sym (equation_value p.0 p.1 h.0.0 h.0.1 e refl vs stair t ht)
              ∙ keeps e (equation_elements p.0 p.1 h.0.0 h.0.1 e refl) (equation_length p.0 p.1 h.0.0 h.0.1 e refl) solves t ht alive,
          still points h.1 (λ s hs live. (vanish s hs live).1) t ht alive,
        )

    pub through_more : (points : List (ℕ × ℕ)) (x y : ℕ) (e : List ℕ) → x < m.size → y < m.size → e ≡ take w (monomials m a d x y)
        → Solves m w vs e → alive_count w old w ≤ suc (alive_count w vs w) → PointsOf m points → Through m a d w points old
        → Through m a d w (points ++ (x, y) ∷ []) vs
    through_more points x y e hx hy is solves count h through =
        record {
          staircase = stair;
          vanish = λ t ht alive.
              All-push (λ p. point_value m (polynomial a d (vector w vs t)) p.0 p.1 ≡ 0) points (x, y) (still points h through.vanish t ht alive)
              (sym (equation_value x y hx hy e is vs stair t ht) ∙ solves t ht alive);
          left = omega (arith, through.left, length_push points (x, y));
        }

  -- ---- all points

  through_interpolates : (points : List (ℕ × ℕ)) (vs : List ℕ) → Through m a d w points vs → (t : ℕ) → t < w → Alive w vs t
      → Interpolates m a d points (polynomial a d (vector w vs t))
  through_interpolates points vs through t ht alive =
      let stair = through.staircase in
      let v : List ℕ = vector w vs t in
      let lv : length v ≡ w = vector-length w vs stair.sized t ht in
      record {
        elements = polynomial-elements m a d v (vector-elements w vs stair.sized m t stair.elements);
        nonzero = λ z.
            let zeros : Zeros v = polynomial_zeros a d v weight degree (omega arith) z in
            alive (sym (vector-entry w vs t t ht) ∙ All-get_or (λ (c : ℕ). c ≡ 0) v t 0 (omega arith) zeros);
        weighted = polynomial_weighted a d v;
        vanishes = through.vanish t ht alive;
      }

  -- the same of a copy
  pub copied_interpolates : (points : List (ℕ × ℕ)) (vs : List ℕ) → Through m a d w points vs → (t : ℕ) → t < w → Alive w vs t
      → (part out : List ℕ) → part ≡ vector w vs t → out ≡ part → Interpolates m a d points (polynomial a d out)
  copied_interpolates points vs through t ht alive part out is copy =
      subst (λ (cs : List ℕ). Interpolates m a d points (polynomial a d cs)) (sym (copy ∙ is)) (through_interpolates points vs through t ht alive)
