-- How a vector is made to solve an equation by another that does not solve it.
use Rattle.std.specs.Prelude.{ℕ, if◌then◌else◌, List, ◌==◌, slice_index}
use Rattle.field.specs.Meaning.{FieldMeaning}
use Rattle.interpolation.specs.Staircase.{dot, plus}

-- what is to be added of q to v, so that v solves e
abbrev pub factor : FieldMeaning → List ℕ → List ℕ → List ℕ → ℕ
factor m e q v = m.negative (m.product (dot m e v) (m.inverse (dot m e q)))

-- vector t afterwards: v as it was if it is not alive
abbrev pub cleared : FieldMeaning → List ℕ → List ℕ → ℕ → List ℕ → List ℕ
cleared m e q t v = if slice_index v t == 0 then v else plus m v (factor m e q v) q
