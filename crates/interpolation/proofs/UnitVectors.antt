-- The unit vectors are a staircase of which all are alive.
-- Assumes nothing.
use Rattle.std.proofs.Common.{◌≡◌, ℕ, zero, suc, ◌+◌, ◌*◌, ◌<◌, List, length, get_or, set, replicate, sym, refl, ◌∙◌, subst, ⊎_elim, arith, lit<}
use Rattle.std.specs.List.{AllByRecursion}
use Rattle.std.proofs.lemmas.List.{get_or-set_same, get_or-set_other, get_or-replicate, get_or_past, length-replicate}
use Rattle.std.proofs.ByRecursion.{All-set, All-weaker, All-from_get_or}
use Rattle.std.proofs.lemmas.Bool.{cases_eq, cases_lt}
use Rattle.field.specs.Meaning.{FieldMeaning, FieldLaws}
use Rattle.interpolation.specs.Staircase.{entry, alive_count, Staircase}
use Rattle.interpolation.proofs.AliveCount.{one_more}
use Rattle.interpolation.proofs.Places.{place_row, place_column, place_below}

-- the first t vectors have 1 at their own place, and all other numbers are 0
abbrev pub Units : ℕ → ℕ → List ℕ → Type 0
Units w t vs =
    AllByRecursion (λ x. x < 2) vs
    × ((a : ℕ) → a < t → entry w vs a a ≡ 1)
    × ((a s : ℕ) → s < w → ¬ (a ≡ s) → entry w vs a s ≡ 0)

get_or_zeros : (n k : ℕ) → get_or {A = ℕ} (replicate n 0) k 0 ≡ 0
get_or_zeros n k =
    ⊎_elim (λ h. get_or-replicate n k 0 0 h) (λ h. get_or_past (replicate n 0) k 0 (omega (arith, length-replicate {A = ℕ} n 0))) (cases_lt k n)

pub units_none : (w n : ℕ) → Units w 0 (replicate n 0)
units_none w n = (
  All-from_get_or (λ x. x < 2) (replicate n 0) 0 (λ i h. subst (λ (x : ℕ). x < 2) (sym (get_or_zeros n i)) (lit< tt)),
  (λ a h. absurd (omega arith)),
  (λ a s h k. get_or_zeros n (a * w + s)),
)

pub units_more : (w t : ℕ) (vs : List ℕ) → length vs ≡ w * w → t < w → Units w t vs → Units w (t + 1) (set vs (t * w + t) 1)
units_more w t vs sized ht h = (All-set (λ x. x < 2) vs (t * w + t) 1 (lit< tt) h.0, owns, rest)
  where
    here : entry w (set vs (t * w + t) 1) t t ≡ 1
    here = get_or-set_same vs (t * w + t) 1 0 (place_below w vs sized t t ht ht)

    owns : (a : ℕ) → a < t + 1 → entry w (set vs (t * w + t) 1) a a ≡ 1
    owns a ha =
        ⊎_elim (λ e. subst (λ (n : ℕ). entry w (set vs (t * w + t) 1) n n ≡ 1) (sym e) here)
        (λ n. let k : a < t = omega (arith, n) in
        let aw : a < w = omega arith in
        get_or-set_other vs (t * w + t) (a * w + a) 1 0 (λ e. n (place_row w a a t t aw ht e)) ∙ h.1 a k)
        (cases_eq a t)

    rest : (a s : ℕ) → s < w → ¬ (a ≡ s) → entry w (set vs (t * w + t) 1) a s ≡ 0
    rest a s hs n =
        get_or-set_other vs (t * w + t) (a * w + s) 1 0 (λ e. n (place_row w a s t t hs ht e ∙ sym (place_column w a s t t hs ht e)))
        ∙ h.2 a s hs n

pub units_staircase : (w : ℕ) (vs : List ℕ) → length vs ≡ w * w → Units w w vs → (m : FieldMeaning) → FieldLaws m → Staircase m w vs
units_staircase w vs sized h m laws =
    record {
      sized = sized;
      elements = All-weaker (λ x. x < 2) (λ x. x < m.size) (λ x l. omega (arith, laws.size_low)) vs h.0;
      own = λ t ht a. h.1 t ht;
      after = λ t s l hs a. h.2 t s hs (λ e. omega arith);
    }

pub units_count : (w : ℕ) (vs : List ℕ) (k : ℕ) → ((a : ℕ) → a < k → entry w vs a a ≡ 1) → alive_count w vs k ≡ k
units_count w vs zero h = refl
units_count w vs (suc k) h =
    omega (
      arith,
      one_more (entry w vs k k) (λ e. let z : entry w vs k k ≡ 1 = h k (omega arith) in omega arith),
      units_count w vs k (λ a l. h a (omega arith)),
    )
