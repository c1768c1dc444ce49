-- What finding roots tells: the roots of a polynomial in x and y, one coefficient at a time.
use Rattle.std.specs.Prelude.{◌≡◌, ℕ, ◌*◌, ◌<◌, ◌≤◌, List, ◌++◌, length, take, drop, Some, None, Option, slice_index}
use Rattle.std.specs.List.{ContainsAt, flat_map, AllByRecursion}
use Rattle.field.specs.Meaning.{FieldMeaning}
use Rattle.bivariate.specs.Bivariate.{Elements, Root, Distinct}

-- f has k coefficients, all of them elements, and Q(x, f(x)) = 0
pub record RootWith (m : FieldMeaning) (Q : List (List ℕ)) (k : ℕ) (f : List ℕ) : Type 0 where
  pub coefficients : length f ≡ k
  pub elements : Elements m f
  pub root : Root m Q f

-- fs lists the roots of Q with k coefficients whose first coefficient is below c: these alone, all of them, and each once.
pub record RootsBelow (m : FieldMeaning) (Q : List (List ℕ)) (k c : ℕ) (fs : List (List ℕ)) : Type 0 where
  pub alone : AllByRecursion (λ f. RootWith m Q k f × (slice_index f 0 < c)) fs
  pub complete : (f : List ℕ) → RootWith m Q k f → slice_index f 0 < c → ContainsAt fs f
  pub once : Distinct fs

-- At the front there stand now, each behind what was chosen before it, all of fs; and behind them what stood there before.
abbrev pub Written : ℕ → List ℕ → List ℕ → List (List ℕ) → ℕ → List ℕ → Type 0
Written k chosen before fs count after =
    (count ≡ length fs) × (count * k ≤ length after) × (take (count * k) after ≡ flat_map (λ f. chosen ++ f) fs)
    × (drop (count * k) after ≡ drop (count * k) before)

-- More roots than there is room for.
abbrev pub TooMany : FieldMeaning → List (List ℕ) → ℕ → ℕ → List ℕ → Type 0
TooMany m Q left k before =
    (fs : List (List ℕ)) × AllByRecursion (RootWith m Q left) fs × Distinct fs × (length before < length fs * k)

-- What finding the last `left` of k coefficients has told: how many roots there are, or that there is no room for all.
abbrev pub Told : FieldMeaning → List (List ℕ) → ℕ → ℕ → List ℕ → List ℕ → List ℕ → Option ℕ → Type 0
Told m Q left k chosen before after (Some count) =
    (fs : List (List ℕ)) × RootsBelow m Q left m.size fs × Written k chosen before fs count after
Told m Q left k chosen before after None = TooMany m Q left k before
