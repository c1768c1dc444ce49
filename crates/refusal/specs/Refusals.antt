-- What each refusal tells.
use Rattle.std.specs.Prelude.{ℕ, List, ◌++◌, codes, decimal}
use Rattle.refusal.specs.declared.Layer.{Layer}
use Rattle.refusal.specs.declared.Layer.TheVariants.{Code, Book, Console}
use Rattle.refusal.specs.declared.Refusal.{Refusal}
use Rattle.refusal.specs.declared.Refusal.TheVariants.{LengthOutOfRange, CoefficientsOutOfRange, TooManyUsers, InnerUsersTooFew, LengthTooLong, UserOutOfRange, LineNotUnderstood}

abbrev pub number_of : Refusal → ℕ
number_of (LengthOutOfRange n) = 1
number_of (CoefficientsOutOfRange k) = 2
number_of (TooManyUsers k) = 3
number_of (InnerUsersTooFew n) = 7
number_of (LengthTooLong n) = 8
number_of (UserOutOfRange u) = 12
number_of LineNotUnderstood = 60

-- the number that is at fault, or 0 where none is
abbrev pub place_of : Refusal → ℕ
place_of (LengthOutOfRange n) = n
place_of (CoefficientsOutOfRange k) = k
place_of (TooManyUsers k) = k
place_of (InnerUsersTooFew n) = n
place_of (LengthTooLong n) = n
place_of (UserOutOfRange u) = u
place_of LineNotUnderstood = 0

abbrev pub layer_of : Refusal → Layer
layer_of (LengthOutOfRange n) = Code
layer_of (CoefficientsOutOfRange k) = Code
layer_of (TooManyUsers k) = Code
layer_of (InnerUsersTooFew n) = Code
layer_of (LengthTooLong n) = Code
layer_of (UserOutOfRange u) = Book
layer_of LineNotUnderstood = Console

-- ---- what a refusal says to a person

abbrev pub layer_name : Layer → List ℕ
layer_name Code = codes "code"
layer_name Book = codes "book"
layer_name Console = codes "console"

-- what is wrong, in words
abbrev pub reason_of : Refusal → List ℕ
reason_of (LengthOutOfRange n) = codes "a plain code's length must be 2 to the size of its field"
reason_of (CoefficientsOutOfRange k) = codes "the coefficients must number 2 to 8, and no more than the positions that hold values"
reason_of (TooManyUsers k) = codes "with so many coefficients the code would have more than 2^32 users"
reason_of (InnerUsersTooFew n) = codes "the inner code must have a user for each symbol of the outer code"
reason_of (LengthTooLong n) = codes "a table must have at most 8192 positions"
reason_of (UserOutOfRange u) = codes "the code has no user of that number"
reason_of LineNotUnderstood = codes "the line is not understood"

abbrev pub sentence : Refusal → List ℕ
sentence r =
    codes "refused (" ++ (decimal (number_of r) ++ (codes ", place " ++ (decimal (place_of r) ++ (codes ", layer "
    ++ (layer_name (layer_of r) ++ (codes "): " ++ reason_of r))))))
