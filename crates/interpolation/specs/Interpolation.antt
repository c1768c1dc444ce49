-- Which faults interpolation tells, in their order.
use Rattle.std.specs.Prelude.{ℕ, ◌+◌, ◌*◌, not, List, [], ◌∷◌, length, nat_lt}
use Rattle.field.specs.Meaning.{FieldMeaning}
use Rattle.bivariate.specs.Values.{elements_only, first_stranger}
use Rattle.refusal.specs.Tables.{Row, row}
use Rattle.refusal.specs.Tables.{within}
use Rattle.interpolation.specs.declared.fault.Fault.{Fault}
use Rattle.interpolation.specs.declared.fault.Fault.TheVariants.{DegreeOutOfRange, WordTooLong, RoomTooShort, MemoryTooShort, NotAnElement}

-- n numbers want n + 1 bytes of room and (n + 1)² bytes of memory
abbrev pub interpolation_rows : FieldMeaning → ℕ → List ℕ → ℕ → ℕ → List (Row Fault)
interpolation_rows m a word room memory =
    row (not (within 1 a 255)) (DegreeOutOfRange a)
    ∷ row (nat_lt m.size (length word)) (WordTooLong (length word))
    ∷ row (nat_lt room (length word + 1)) (RoomTooShort (length word + 1))
    ∷ row (nat_lt memory ((length word + 1) * (length word + 1))) (MemoryTooShort ((length word + 1) * (length word + 1)))
    ∷ row (not (elements_only m word)) (NotAnElement (first_stranger m word))
    ∷ []
