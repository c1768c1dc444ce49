-- The steps by which a grid of coefficients is shifted, spread and divided in place.
-- Assumes nothing.
use Rattle.std.proofs.Common.{◌≡◌, ℕ, suc, ◌+◌, ◌-◌, ◌*◌, ◌/◌, ◌%◌, ◌<◌, ◌≤◌, ◌≢◌, List, ◌++◌, length, get_or, take, drop, set, sym, ap, ◌∙◌, subst, ap₂, mul-le-mul_right, suc-mul, add-mul, arith}
use native.Mathlib.Decide.{ℕ_discrete, dec_le}
use borrow.Rule.Slice.PartMut.{put_mid}
use Rattle.std.proofs.lemmas.Nat.{mul-add-lt, div-mul-add, mod-mul-add, div-add-mod'}
use Rattle.std.proofs.ByRecursion.{All-take, All-drop, All-append}
use Rattle.std.proofs.lemmas.List.{length-set, get_or-set_same, get_or-set_other, length-take-le, length-drop, length-append, take_at, drop_at, drop-take}
use Rattle.std.proofs.lemmas.Slice.{take-put_mid_below, drop-put_mid}
use Rattle.field.specs.Meaning.{FieldMeaning, FieldLaws}
use Rattle.bivariate.specs.Bivariate.{Elements}
use Rattle.bivariate.specs.Grid.{cell, group, shifted}
use Rattle.bivariate.specs.Steps.{Divided}
use Rattle.decoding.specs.Stages.{Spread}
use Rattle.bivariate.proofs.Embedding.{shifted-elements}
use Rattle.decoding.proofs.Shifts.{shifted-length}

-- the next row begins where this one ends
pub next_row : (k g w : ℕ) → k < g → k * w + w ≤ g * w
next_row k g w h = let e : suc k * w ≤ g * w = mul-le-mul_right w h in omega (arith, suc-mul k w, e)

-- ---- one group is written

module _ (w d g : ℕ) (now R : List ℕ) (sized : length now ≡ d * w) (row : g < d) (fits : length R ≡ w) where
  within : g * w ≤ length now
  within = omega (arith, next_row g d w row)

  pub group_written : group w (put_mid (g * w) (g * w + w - g * w) now R) g ≡ R
  group_written =
      ap (take w) (drop_at (take (g * w) now) _ (g * w) (length-take-le (g * w) now within)) ∙ take_at R _ w fits

  pub group_kept : (k : ℕ) → k ≢ g → group w (put_mid (g * w) (g * w + w - g * w) now R) k ≡ group w now k
  group_kept k n = by (dec_le (suc k) g)
    where
      by : Dec (k < g) → group w (put_mid (g * w) (g * w + w - g * w) now R) k ≡ group w now k
      by (yes l) =
          sym (drop-take (k * w) w _)
          ∙ ap (drop (k * w)) (take-put_mid_below (g * w) _ now R (k * w + w) (next_row k g w l) within)
          ∙ drop-take (k * w) w now
      by (no l) =
          let e : g < k = omega arith in
          ap (take w) (drop-put_mid (g * w) _ now R (k * w) (omega (arith, next_row g k w e)) within (omega arith))

  rest : List ℕ
  rest = drop (g * w + w - g * w) (drop (g * w) now)

  pub length_written : length (put_mid (g * w) (g * w + w - g * w) now R) ≡ length now
  unfolding rest
  length_written =
      length-append (take (g * w) now) (R ++ rest)
      ∙ omega (
        arith,
        length-append R rest,
        length-take-le (g * w) now within,
        length-drop (g * w + w - g * w) (drop (g * w) now),
        length-drop (g * w) now,
        next_row g d w row,
      )

-- ---- all groups are shifted

module _ (m : FieldMeaning) (laws : FieldLaws m) (c w d g : ℕ) (element : c < m.size) (before now : List ℕ) (sized : length before ≡ d * w) (row : g < d)
    (same : length now ≡ length before) (elements : Elements m now) where
  pub part_end : g * w + w ≤ length now
  part_end = omega (arith, next_row g d w row)

  pub part_elements : Elements m (take (g * w + w - g * w) (drop (g * w) now))
  part_elements =
      All-take (λ x. x < m.size) (g * w + w - g * w) (drop (g * w) now) (All-drop (λ x. x < m.size) (g * w) now elements)

  part_length : length (take (g * w + w - g * w) (drop (g * w) now)) ≡ w
  part_length =
      let e : g * w + w - g * w ≡ w = omega arith in
      ap (λ (n : ℕ). length (take n (drop (g * w) now))) e
      ∙ length-take-le w (drop (g * w) now) (omega (arith, length-drop (g * w) now, part_end))

  part_is : take (g * w + w - g * w) (drop (g * w) now) ≡ group w now g
  part_is = let e : g * w + w - g * w ≡ w = omega arith in ap (λ (n : ℕ). take n (drop (g * w) now)) e

  module _ (R : List ℕ) (is : R ≡ shifted m c (take (g * w + w - g * w) (drop (g * w) now)))
      (done : (k : ℕ) → k < g → group w now k ≡ shifted m c (group w before k)) (left : (k : ℕ) → g ≤ k → group w now k ≡ group w before k) where
    shifted-group : R ≡ shifted m c (group w before g)
    shifted-group = is ∙ ap (shifted m c) (part_is ∙ left g (omega arith))

    full : length R ≡ w
    full = ap length is ∙ shifted-length m c (take (g * w + w - g * w) (drop (g * w) now)) ∙ part_length

    abbrev after : List ℕ
    after = put_mid (g * w) (g * w + w - g * w) now R

    pub groups_more :
        (length after ≡ length before) × Elements m after
        × ((k : ℕ) → k < g + 1 → group w after k ≡ shifted m c (group w before k))
        × ((k : ℕ) → g + 1 ≤ k → group w after k ≡ group w before k)
    groups_more = (
      length_written w d g now R (same ∙ sized) row full ∙ same,
      All-append (λ x. x < m.size) (take (g * w) now) (R ++ drop (g * w + w - g * w) (drop (g * w) now)) (All-take (λ x. x < m.size) (g * w) now elements)
          (All-append (λ x. x < m.size) R (drop (g * w + w - g * w) (drop (g * w) now))
          (subst (Elements m) (sym is) (shifted-elements m laws c (take (g * w + w - g * w) (drop (g * w) now)) element part_elements))
          (All-drop (λ x. x < m.size) (g * w + w - g * w) (drop (g * w) now) (All-drop (λ x. x < m.size) (g * w) now elements))),
      (λ k l. upto k l (ℕ_discrete k g)),
      (λ k l. group_kept w d g now R (same ∙ sized) row full k (λ e. absurd (omega arith)) ∙ left k (omega arith)),
    )
      where
        upto : (k : ℕ) → k < g + 1 → Dec (k ≡ g) → group w after k ≡ shifted m c (group w before k)
        upto k l (yes e) =
            ap (group w after) e ∙ group_written w d g now R (same ∙ sized) row full ∙ shifted-group ∙ ap (λ (n : ℕ). shifted m c (group w before n)) (sym e)
        upto k l (no n) = group_kept w d g now R (same ∙ sized) row full k n ∙ done k (omega arith)

-- ---- a coefficient moves up by its power of y

-- where the number at k comes from
abbrev pub source_of : ℕ → ℕ → ℕ
source_of w k = (k / w - k % w) * w + k % w

pub source_below : (w k : ℕ) → source_of w k ≤ k
source_below w k =
    let e : (k / w - k % w) * w ≤ k / w * w = mul-le-mul_right w (omega arith) in
    omega (arith, e, div-add-mod' k w)

-- the places from k on are done, and the others as they were
abbrev pub SpreadFrom : ℕ → ℕ → List ℕ → ℕ → List ℕ → Type 0
SpreadFrom w n before k now =
    (length now ≡ length before)
    × ((t : ℕ) → k ≤ t → t < n → t % w ≤ t / w → get_or now t 0 ≡ get_or before (source_of w t) 0)
    × ((t : ℕ) → k ≤ t → t < n → t / w < t % w → get_or now t 0 ≡ 0)
    × ((t : ℕ) → t < k → get_or now t 0 ≡ get_or before t 0)

module _ (w n : ℕ) (before now : List ℕ) (k v : ℕ) (above : 0 < k) (within : k ≤ n) (sized : length before ≡ n) (done : SpreadFrom w n before k now) where
  at_place : (t : ℕ) → k - 1 ≤ t → ¬ (t ≡ k - 1) → k ≤ t
  at_place t l n' = omega arith

  pub spread_more :
      ((k - 1) % w ≤ (k - 1) / w → v ≡ get_or now (source_of w (k - 1)) 0) → ((k - 1) / w < (k - 1) % w → v ≡ 0)
      → SpreadFrom w n before (k - 1) (set now (k - 1) v)
  spread_more moved emptied = (
    length-set now (k - 1) v ∙ done.0,
    (λ t l b h. up t l b h (ℕ_discrete t (k - 1))),
    (λ t l b h. clear t l b h (ℕ_discrete t (k - 1))),
    (λ t l. get_or-set_other now (k - 1) t v 0 (λ e. absurd (omega arith)) ∙ done.3 t (omega arith)),
  )
    where
      here : get_or (set now (k - 1) v) (k - 1) 0 ≡ v
      here = get_or-set_same now (k - 1) v 0 (omega (arith, done.0))

      origin : get_or now (source_of w (k - 1)) 0 ≡ get_or before (source_of w (k - 1)) 0
      origin = done.3 (source_of w (k - 1)) (omega (arith, source_below w (k - 1)))

      up : (t : ℕ) → k - 1 ≤ t → t < n → t % w ≤ t / w → Dec (t ≡ k - 1) → get_or (set now (k - 1) v) t 0 ≡ get_or before (source_of w t) 0
      up t l b h (yes e) =
          ap (λ (i : ℕ). get_or (set now (k - 1) v) i 0) e ∙ here ∙ moved (subst (λ (i : ℕ). i % w ≤ i / w) e h) ∙ origin
          ∙ ap (λ (i : ℕ). get_or before (source_of w i) 0) (sym e)
      up t l b h (no n') = get_or-set_other now (k - 1) t v 0 n' ∙ done.1 t (at_place t l n') b h

      clear : (t : ℕ) → k - 1 ≤ t → t < n → t / w < t % w → Dec (t ≡ k - 1) → get_or (set now (k - 1) v) t 0 ≡ 0
      clear t l b h (yes e) =
          ap (λ (i : ℕ). get_or (set now (k - 1) v) i 0) e ∙ here ∙ emptied (subst (λ (i : ℕ). i / w < i % w) e h)
      clear t l b h (no n') = get_or-set_other now (k - 1) t v 0 n' ∙ done.2 t (at_place t l n') b h

pub spread-all : (w d k : ℕ) (before now : List ℕ) → k ≤ 0 → SpreadFrom w (d * w) before k now → Spread w d before now
spread-all w d k before now end done = record {
  same_length = done.0;
  moved = λ g j hg hj l.
      let q : (g * w + j) / w ≡ g = div-mul-add g w j hj in
      let r : (g * w + j) % w ≡ j = mod-mul-add g w j hj in
      done.1 (g * w + j) (omega arith) (omega (arith, mul-add-lt g w j d hg hj)) (omega arith)
      ∙ ap₂ (λ (a b : ℕ). get_or before ((a - b) * w + b) 0) q r;
  emptied = λ g j hg hj l.
      let q : (g * w + j) / w ≡ g = div-mul-add g w j hj in
      let r : (g * w + j) % w ≡ j = mod-mul-add g w j hj in
      done.2 (g * w + j) (omega arith) (omega (arith, mul-add-lt g w j d hg hj)) (omega arith);
}

-- ---- the highest power of x goes

module _ (w d r : ℕ) (before after : List ℕ) (sized : length before ≡ d * w) (low : r < d) (divides : (g j : ℕ) → g < r → j < w → cell w before g j ≡ 0)
    (moved : (k e : ℕ) → k + r * w < length before → get_or after k e ≡ get_or before (k + r * w) e)
    (wrapped : (k e : ℕ) → length before ≤ k + r * w → k < length before → get_or after k e ≡ get_or before (k + r * w - length before) e) where
  along : (g j : ℕ) → g * w + j + r * w ≡ (g + r) * w + j
  along g j = omega (arith, add-mul g r w)

  pub divided : Divided w d r before after
  divided = record {
    lost = divides;
    moved = λ g j hg hj h.
        moved (g * w + j) 0 (omega (arith, along g j, mul-add-lt (g + r) w j d h hj)) ∙ ap (λ (k : ℕ). get_or before k 0) (along g j);
    cleared = λ g j hg hj h.
        let past : d * w ≤ (g + r) * w = mul-le-mul_right w h in
        let first : (g + r - d) * w + j ≡ g * w + j + r * w - length before =
        let e : (g + r) * w ≡ (g + r - d) * w + d * w = ap (λ (k : ℕ). k * w) (let s : g + r ≡ g + r - d + d = omega arith in s) ∙ add-mul (g + r - d) d w in
        omega (arith, along g j, e, sized) in
        wrapped (g * w + j) 0 (omega (arith, along g j, past)) (omega (arith, mul-add-lt g w j d hg hj))
        ∙ ap (λ (k : ℕ). get_or before k 0) (sym first) ∙ divides (g + r - d) j (omega arith) hj;
  }
