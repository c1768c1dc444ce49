-- Users as polynomials, and what is refused of their number of coefficients.
use Rattle.std.specs.Prelude.{ℕ, zero, suc, ◌/◌, ◌%◌, ◌^◌, min, not, List, [], ◌∷◌, nat_lt}
use Rattle.refusal.specs.declared.Refusal.{Refusal}
use Rattle.refusal.specs.Tables.{Row, row, within}
use Rattle.refusal.specs.declared.Refusal.TheVariants.{CoefficientsOutOfRange, TooManyUsers}

-- the k lowest digits of u in base q, lowest first: the coefficients of the polynomial of user u
abbrev pub digits : ℕ → ℕ → ℕ → List ℕ
digits q zero u = []
digits q (suc k) u = u % q ∷ digits q k (u / q)

-- k out of range, where the code has room for `most` coefficients; then too many users
abbrev pub coefficient_rows : ℕ → ℕ → ℕ → List (Row Refusal)
coefficient_rows q most k =
    row (not (within 2 k (min 8 most))) (CoefficientsOutOfRange k)
    ∷ row (nat_lt (2 ^ 32) (q ^ k)) (TooManyUsers k)
    ∷ []
