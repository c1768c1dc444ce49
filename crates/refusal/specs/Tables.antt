-- How the rows of a table decide, for any type of errors.
use Rattle.std.specs.Prelude.{◌≡◌, Bool, if◌then◌else◌, ℕ, ◌&&◌, nat_le, List, [], ◌∷◌, Some, None, Ok, Err, Option, Result}

-- A row of a call's table: where the condition holds, the refusal is this, unless a row above it has told one.
pub record Row (E : Type 0) : Type 0 where
  pub condition : Bool
  pub refusal : E

abbrev pub row : {E : Type 0} → Bool → E → Row E
row condition refusal = record { condition = condition; refusal = refusal }

-- the refusal of the first row whose condition holds
abbrev pub first_refusal : {E : Type 0} → List (Row E) → Option E
first_refusal [] = None
first_refusal (r ∷ rs) = if r.condition then Some r.refusal else first_refusal rs

-- A call answers as its rows decide: it refuses exactly as the first row that holds says, and what it gives where none holds is as P says.
abbrev pub Answers : {T E : Type 0} → Result T E → List (Row E) → (T → Type 0) → Type 0
Answers (Ok x) rows P = (first_refusal rows ≡ None) × P x
Answers (Err e) rows P = first_refusal rows ≡ Some e

-- low ≤ x ≤ high
abbrev pub within : ℕ → ℕ → ℕ → Bool
within low x high = nat_le low x && nat_le x high
