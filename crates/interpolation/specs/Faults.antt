-- What each fault says to a person.
use Rattle.std.specs.Prelude.{ℕ, List, ◌++◌, codes, decimal}
use Rattle.interpolation.specs.declared.fault.Fault.{Fault}
use Rattle.interpolation.specs.declared.fault.Fault.TheVariants.{DegreeOutOfRange, BoundOutOfRange, WordTooLong, TooManyCoefficients, RoomTooShort, MemoryTooShort, NotAnElement, AllZero}

abbrev pub fault_sentence : Fault → List ℕ
fault_sentence (DegreeOutOfRange a) = codes "the degree must be 1 to 255, but is " ++ decimal a
fault_sentence (BoundOutOfRange d) = codes "the bound on degrees must be 1 to 257, but is " ++ decimal d
fault_sentence (WordTooLong n) = codes "the word has more numbers than the field has elements: " ++ decimal n
fault_sentence (TooManyCoefficients n) = codes "there are more coefficients than terms: " ++ decimal n
fault_sentence (RoomTooShort n) = codes "the room for the result must have " ++ (decimal n ++ codes " bytes or more")
fault_sentence (MemoryTooShort n) = codes "the work memory must have " ++ (decimal n ++ codes " bytes or more")
fault_sentence (NotAnElement i) = codes "the number at position " ++ (decimal i ++ codes " is no element of the field")
fault_sentence AllZero = codes "all coefficients are 0"
