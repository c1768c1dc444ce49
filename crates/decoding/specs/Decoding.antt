-- What the calls of list decoding tell, and which faults.
use Rattle.std.specs.Prelude.{◌≡◌, ℕ, zero, suc, ◌+◌, ◌*◌, ◌≤◌, Bool, if◌then◌else◌, not, ◌&&◌, List, [], ◌∷◌, length, take, drop, Some, None, Option, ◌==◌, nat_le, nat_lt}
use Rattle.std.specs.List.{ContainsAt, AllByRecursion, list_all}
use Rattle.field.specs.Meaning.{FieldMeaning}
use Rattle.bivariate.specs.Bivariate.{Elements, Distinct, Interpolates, agreement}
use Rattle.bivariate.specs.Terms.{term_count, degree_bound, most_y}
use Rattle.bivariate.specs.Values.{elements_only, first_stranger}
use Rattle.refusal.specs.Tables.{Row, row}
use Rattle.refusal.specs.Tables.{within}
use Rattle.interpolation.specs.declared.fault.Fault.{Fault}
use Rattle.interpolation.specs.declared.fault.Fault.TheVariants.{DegreeOutOfRange, BoundOutOfRange, WordTooLong, TooManyCoefficients, RoomTooShort, MemoryTooShort, NotAnElement, AllZero}
use Rattle.decoding.specs.Roots.{RootWith}

-- n lists of k numbers that stand one behind the other
abbrev pub pieces : ℕ → ℕ → List ℕ → List (List ℕ)
pieces k zero cs = []
pieces k (suc n) cs = take k cs ∷ pieces k n (drop k cs)

-- whether each number is 0
abbrev pub only_zeros : List ℕ → Bool
only_zeros = list_all (λ c. c == 0)

-- fs lists the roots of Q with k coefficients: these alone, all of them, each once, and at most so many.
pub record RootsFound (m : FieldMeaning) (Q : List (List ℕ)) (k most : ℕ) (fs : List (List ℕ)) : Type 0 where
  pub alone : AllByRecursion (RootWith m Q k) fs
  pub complete : (f : List ℕ) → RootWith m Q k f → ContainsAt fs f
  pub once : Distinct fs
  pub few : length fs ≤ most

-- how many bytes the found polynomials want: as many lists of a + 1 coefficients as y can have powers
abbrev pub found_bytes : ℕ → ℕ → ℕ
found_bytes a d = most_y a d * suc a

-- how many bytes of memory finding the roots wants: for the coefficients chosen so far, and a grid for each coefficient
abbrev pub memory_bytes : ℕ → ℕ → ℕ
memory_bytes a d = suc a + suc a * (d * suc (most_y a d))

abbrev pub root_rows : FieldMeaning → ℕ → ℕ → List ℕ → ℕ → ℕ → List (Row Fault)
root_rows m a d cs room memory =
    row (not (within 1 a 255)) (DegreeOutOfRange a)
    ∷ row (not (within 1 d 257)) (BoundOutOfRange d)
    ∷ row (nat_lt (term_count a d) (length cs)) (TooManyCoefficients (length cs))
    ∷ row (nat_lt room (found_bytes a d)) (RoomTooShort (found_bytes a d))
    ∷ row (nat_lt memory (memory_bytes a d)) (MemoryTooShort (memory_bytes a d))
    ∷ row (not (elements_only m cs)) (NotAnElement (first_stranger m cs))
    ∷ row (only_zeros cs) AllZero
    ∷ []

-- how many bytes finding the roots wants altogether, for words of n numbers
abbrev pub bytes_answer : ℕ → ℕ → Option ℕ
bytes_answer a n = if within 1 a 255 && nat_le n 256 then Some (found_bytes a (degree_bound a n) + memory_bytes a (degree_bound a n)) else None

-- how many bytes of memory decoding wants: for the coefficients and the vectors of interpolation, and for finding the roots
abbrev pub decoding_bytes : ℕ → ℕ → ℕ
decoding_bytes a n = (n + 1) * (n + 2) + memory_bytes a (degree_bound a n)

abbrev pub decoding_rows : FieldMeaning → ℕ → List ℕ → ℕ → ℕ → List (Row Fault)
decoding_rows m a word room memory =
    row (not (within 1 a 255)) (DegreeOutOfRange a)
    ∷ row (nat_lt m.size (length word)) (WordTooLong (length word))
    ∷ row (nat_lt room (found_bytes a (degree_bound a (length word)))) (RoomTooShort (found_bytes a (degree_bound a (length word))))
    ∷ row (nat_lt memory (decoding_bytes a (length word))) (MemoryTooShort (decoding_bytes a (length word)))
    ∷ row (not (elements_only m word)) (NotAnElement (first_stranger m word))
    ∷ []

-- fs are the roots with a + 1 coefficients of something that interpolates the points, and so all that agree with d or more of them are there.
pub record Decoded (m : FieldMeaning) (a d : ℕ) (points : List (ℕ × ℕ)) (fs : List (List ℕ)) : Type 0 where
  pub roots : (Q : List (List ℕ)) × Interpolates m a d points Q × RootsFound m Q (suc a) (most_y a d) fs
  pub complete : (f : List ℕ) → length f ≡ suc a → Elements m f → d ≤ agreement m f points → ContainsAt fs f
