-- Worked values, a row each, computed from the definitions that the contracts cite.
use Rattle.std.specs.Prelude.{◌≡◌, Bool, true, ◌&&◌, List, [], ◌∷◌, ℕ, zero, suc, eqb}
use Rattle.std.specs.List.{list_all}
use Rattle.field.specs.Modular.{modulo251}
use Rattle.field.specs.Binary.{gf16, gf256}
use Rattle.code.specs.Meaning.{CodeMeaning}
use Rattle.reed_solomon.specs.Plain.{plain}
use Rattle.reed_solomon.specs.DoublyExtended.{doubly_extended}
use Rattle.code.specs.Concatenation.{concatenated}

-- whether a table holds s at the n positions from i on
abbrev holds_from : (ℕ → ℕ) → ℕ → ℕ → ℕ → Bool
holds_from table s i zero = true
holds_from table s i (suc n) = eqb (table i) s && holds_from table s (suc i) n

-- the code of 65,536 users: outer doubly extended over GF(256), inner doubly extended over GF(16), two coefficients each
abbrev pub large_code : CodeMeaning
large_code = concatenated (doubly_extended gf256 2) (doubly_extended gf16 2)

abbrev pub worked_values : List Bool
worked_values =
    eqb (gf16.product 2 8) 3
    ∷ eqb (gf16.inverse 2) 9
    ∷ eqb (gf256.product 2 128) 29
    ∷ eqb (gf256.inverse 2) 142
    ∷ eqb ((plain modulo251 251 2).symbol 252 250) 0
    ∷ eqb large_code.users 65536
    ∷ eqb large_code.length 4369
    ∷ eqb large_code.overlap 274
    ∷ holds_from (large_code.symbol 256) 3 51 16
    ∷ eqb (large_code.symbol 256 67) 0
    ∷ []

abbrev pub WorkedValuesHold : Type 0
WorkedValuesHold = list_all (λ b. b) worked_values ≡ true
