-- Where the coefficients of a polynomial stand in the list that it is made from, and which of them are 0.
-- Assumes nothing.
use Rattle.std.proofs.Common.{◌≡◌, ℕ, zero, suc, ◌+◌, ◌-◌, ◌*◌, ◌<◌, ◌≤◌, List, [], ◌∷◌, length, get_or, take, drop, sum_by, refl, ap, ◌∙◌, subst, mul-suc, arith, length-drop, length-take}
use Rattle.std.specs.List.{range_with_len, AllByRecursion}
use Rattle.std.proofs.ByRecursion.{All-append, All-take, All-drop}
use Rattle.std.proofs.lemmas.List.{take-append-drop, get_or_past, get_or-take, get_or-drop}
use Rattle.field.specs.Meaning.{FieldMeaning}
use Rattle.bivariate.specs.Bivariate.{Elements, Zeros, coefficient}
use Rattle.bivariate.specs.Terms.{term_count, most_y, by_powers, polynomial}
use Rattle.bivariate.proofs.Degrees.{first_terms}
use Rattle.bivariate.proofs.Widths.{first_terms_front, most_terms, most_high}

-- ---- the coefficients and the list

by_powers_back : (P : ℕ → Type 0) (a d k : ℕ) (cs : List ℕ) → length cs ≤ first_terms a d k → AllByRecursion (AllByRecursion P) (by_powers a d k cs) → AllByRecursion P cs
by_powers_back P a d zero [] l h = tt
by_powers_back P a d zero (c ∷ cs) l h = absurd (omega arith)
by_powers_back P a d (suc k) cs l h =
    let rest = by_powers_back P a (d - a) k (drop d cs) (omega (arith, length-drop d cs, first_terms_front a d k)) h.1 in
    subst (AllByRecursion P) (take-append-drop d cs) (All-append P (take d cs) (drop d cs) h.0 rest)

-- what holds of each coefficient of the polynomial holds of each number of the list
pub polynomial_back : (P : ℕ → Type 0) (a d : ℕ) (cs : List ℕ) → 1 ≤ a → 1 ≤ d → length cs ≤ term_count a d → AllByRecursion (AllByRecursion P) (polynomial a d cs) → AllByRecursion P cs
polynomial_back P a d cs p q l h = by_powers_back P a d (suc (most_y a d)) cs (omega (arith, most_terms a d p q)) h

pub polynomial_zeros : (a d : ℕ) (cs : List ℕ) → 1 ≤ a → 1 ≤ d → length cs ≤ term_count a d → AllByRecursion Zeros (polynomial a d cs) → Zeros cs
polynomial_zeros = polynomial_back (λ c. c ≡ 0)

pub by_powers_each : (P : ℕ → Type 0) (a d k : ℕ) (cs : List ℕ) → AllByRecursion P cs → AllByRecursion (AllByRecursion P) (by_powers a d k cs)
by_powers_each P a d zero cs h = tt
by_powers_each P a d (suc k) cs h = (All-take P d cs h, by_powers_each P a (d - a) k (drop d cs) (All-drop P d cs h))

-- and what holds of each number of the list holds of each coefficient
pub polynomial_each : (P : ℕ → Type 0) (a d : ℕ) (cs : List ℕ) → AllByRecursion P cs → AllByRecursion (AllByRecursion P) (polynomial a d cs)
polynomial_each P a d cs h = by_powers_each P a d (suc (most_y a d)) cs h

pub polynomial-elements : (m : FieldMeaning) (a d : ℕ) (cs : List ℕ) → Elements m cs → AllByRecursion (Elements m) (polynomial a d cs)
polynomial-elements m = polynomial_each (λ c. c < m.size)

-- ---- the coefficient of x^g·y^j

by_powers_weighted : (a d k : ℕ) (cs : List ℕ) (g j : ℕ) → d ≤ g + a * j → coefficient (by_powers a d k cs) g j ≡ 0
by_powers_weighted a d zero cs g j h = refl
by_powers_weighted a d (suc k) cs g zero h = get_or_past (take d cs) g 0 (omega (arith, length-take d cs))
by_powers_weighted a d (suc k) cs g (suc j) h =
    by_powers_weighted a (d - a) k (drop d cs) g j (omega (arith, mul-suc a j))

pub polynomial_weighted : (a d : ℕ) (cs : List ℕ) (g j : ℕ) → d ≤ g + a * j → coefficient (polynomial a d cs) g j ≡ 0
polynomial_weighted a d cs g j h = by_powers_weighted a d (suc (most_y a d)) cs g j h

by_powers-coefficient : (a d k : ℕ) (cs : List ℕ) (g j : ℕ) → j < k → g + a * j < d
    → coefficient (by_powers a d k cs) g j ≡ get_or cs (first_terms a d j + g) 0
by_powers-coefficient a d zero cs g j l h = absurd (omega arith)
by_powers-coefficient a d (suc k) cs g zero l h =
    let at : g ≡ 0 + g = omega arith in
    get_or-take d cs g 0 (omega arith) ∙ ap (λ (i : ℕ). get_or cs i 0) at
by_powers-coefficient a d (suc k) cs g (suc j) l h =
    let at : d + (first_terms a (d - a) j + g) ≡ first_terms a d (suc j) + g = omega (arith, first_terms_front a d j) in
    by_powers-coefficient a (d - a) k (drop d cs) g j (omega arith) (omega (arith, mul-suc a j))
    ∙ get_or-drop d cs (first_terms a (d - a) j + g) 0
    ∙ ap (λ (i : ℕ). get_or cs i 0) at

-- those of the lower powers of y stand before it
pub polynomial-coefficient : (a d : ℕ) (cs : List ℕ) (g j : ℕ) → 1 ≤ a → g + a * j < d
    → coefficient (polynomial a d cs) g j ≡ get_or cs (sum_by (λ i. d - a * i) (range_with_len 0 j) + g) 0
polynomial-coefficient a d cs g j p h =
    by_powers-coefficient a d (suc (most_y a d)) cs g j (omega (arith, most_high a d p (omega arith) j (omega arith))) h
