-- How the search goes on from one candidate for a coefficient to the next.
-- Assumes nothing.
use Rattle.std.proofs.Common.{◌≡◌, ℕ, suc, ◌+◌, ◌-◌, ◌*◌, ◌<◌, ◌≤◌, ◌↔◌, List, [], ◌∷◌, ◌++◌, map, length, get_or, take, drop, set, Some, None, sym, refl, ap, ◌∙◌, subst, ap₂, zero-mul, one-mul, add-mul, arith}
use native.Mathlib.Decide.{ℕ_discrete}
use borrow.Rule.Slice.PartMut.{put_mid}
use Rattle.std.specs.List.{ContainsAt, flat_map, AllByRecursion}
use Rattle.std.proofs.ByRecursion.{All-append, All-map, All-weaker, has_append_left, has_append_right}
use Rattle.std.proofs.lemmas.List.{append_assoc, append-nil, length-append, length-map, get_or-map, take_more_set, drop_more, take_all, take_rest, take-take, take-set-le, drop-drop, drop_all, length-set, length-drop, length-take-le}
use Rattle.std.proofs.lemmas.Grind.{flat_map-append}
use Rattle.std.proofs.Math.Seq.{take-append-add, drop-append-add}
use Rattle.field.specs.Meaning.{FieldMeaning, FieldLaws}
use Rattle.bivariate.specs.Bivariate.{Elements, Root, Distinct}
use Rattle.bivariate.proofs.Embedding.{get_or-element}
use Rattle.decoding.specs.Roots.{RootWith, RootsBelow, Written, TooMany, Told}

-- ---- lists of lists

tail_same : (c : ℕ) (f g : List ℕ) → c ∷ f ≡ c ∷ g → f ≡ g
tail_same c f g e = ap (drop 1) e

distinct_onto : (c : ℕ) (gs : List (List ℕ)) → Distinct gs → Distinct (map (λ g. c ∷ g) gs)
distinct_onto c [] h = tt
distinct_onto c (g ∷ gs) h = (
  All-map (λ f. ¬ (f ≡ c ∷ g)) (λ f. c ∷ f) gs (All-weaker (λ f. ¬ (f ≡ g)) (λ f. ¬ (c ∷ f ≡ c ∷ g)) (λ f n e. n (tail_same c f g e)) gs h.0),
  distinct_onto c gs h.1,
)

distinct_append : (fs gs : List (List ℕ)) → Distinct fs → Distinct gs → AllByRecursion (λ f. AllByRecursion (λ g. ¬ (g ≡ f)) gs) fs → Distinct (fs ++ gs)
distinct_append [] gs h k a = k
distinct_append (f ∷ fs) gs h k a = (All-append (λ g. ¬ (g ≡ f)) fs gs h.0 a.0, distinct_append fs gs h.1 k a.1)

has_onto : (c : ℕ) (gs : List (List ℕ)) (g : List ℕ) → ContainsAt gs g → ContainsAt (map (λ f. c ∷ f) gs) (c ∷ g)
has_onto c gs g h =
    (h.0, omega (arith, length-map gs (λ (f : List ℕ). c ∷ f), h.1), λ d. get_or-map (λ (f : List ℕ). c ∷ f) gs h.0 [] d h.1 ∙ ap (λ (f : List ℕ). c ∷ f) (h.2 []))

joined_onto : (chosen : List ℕ) (c : ℕ) (gs : List (List ℕ))
    → flat_map (λ f. chosen ++ f) (map (λ g. c ∷ g) gs) ≡ flat_map (λ g. (chosen ++ (c ∷ [])) ++ g) gs
joined_onto chosen c [] = refl
joined_onto chosen c (g ∷ gs) = ap₂ (λ (u v : List ℕ). u ++ v) (sym (append_assoc chosen (c ∷ []) g)) (joined_onto chosen c gs)

-- ---- one candidate more

-- gs lists what can follow c in a root: these alone, all of them, and each once
pub record Continuations (m : FieldMeaning) (Q : List (List ℕ)) (k c : ℕ) (gs : List (List ℕ)) : Type 0 where
  pub alone : AllByRecursion (λ g. (length g ≡ k) × Elements m g × Root m Q (c ∷ g)) gs
  pub complete : (g : List ℕ) → length g ≡ k → Elements m g → Root m Q (c ∷ g) → ContainsAt gs g
  pub once : Distinct gs

-- what was told of the roots whose first coefficient is below c
abbrev pub Progress : FieldMeaning → List (List ℕ) → ℕ → ℕ → List ℕ → List ℕ → ℕ → ℕ → List ℕ → Type 0
Progress m Q left k chosen before c count now =
    (fs : List (List ℕ)) × RootsBelow m Q left c fs × Written k chosen before fs count now

module _ (m : FieldMeaning) (Q : List (List ℕ)) (left : ℕ) (first : 1 ≤ left) where
  follows : (c : ℕ) (f : List ℕ) → RootWith m Q left f → get_or f 0 0 ≡ c → f ≡ c ∷ drop 1 f
  follows c f r e = drop_more f 0 0 (omega (arith, r.coefficients)) ∙ ap (λ (x : ℕ). x ∷ drop 1 f) e

  rest_root : (c : ℕ) (f : List ℕ) → RootWith m Q left f → f ≡ c ∷ drop 1 f
      → (length (drop 1 f) ≡ left - 1) × Elements m (drop 1 f) × Root m Q (c ∷ drop 1 f)
  rest_root c f r e = (
    (let k : length f ≡ suc (length (drop 1 f)) = ap length e in omega (arith, r.coefficients)),
    (subst (Elements m) e r.elements).1,
    subst (Root m Q) e r.root,
  )

  whole_root : (c : ℕ) (g : List ℕ) → c < m.size → (length g ≡ left - 1) × Elements m g × Root m Q (c ∷ g) → RootWith m Q left (c ∷ g)
  whole_root c g h r = record { coefficients = omega (arith, r.0); elements = (h, r.1); root = r.2 }

  apart : (c : ℕ) (fs gs : List (List ℕ)) → AllByRecursion (λ f. RootWith m Q left f × (get_or f 0 0 < c)) fs → AllByRecursion (λ f. AllByRecursion (λ g. ¬ (g ≡ f)) (map (λ g. c ∷ g) gs)) fs
  apart c fs gs =
      All-weaker (λ f. RootWith m Q left f × (get_or f 0 0 < c)) (λ f. AllByRecursion (λ g. ¬ (g ≡ f)) (map (λ g. c ∷ g) gs)) (λ f r. other f r.1 gs) fs
    where
      other : (f : List ℕ) → get_or f 0 0 < c → (gs : List (List ℕ)) → AllByRecursion (λ g. ¬ (g ≡ f)) (map (λ g. c ∷ g) gs)
      other f l [] = tt
      other f l (g ∷ gs) = ((λ e. let k : c ≡ get_or f 0 0 = ap (λ (h : List ℕ). get_or h 0 0) e in absurd (omega arith)), other f l gs)

  below_more : (c : ℕ) (fs : List (List ℕ)) → AllByRecursion (λ f. RootWith m Q left f × (get_or f 0 0 < c)) fs → AllByRecursion (λ f. RootWith m Q left f × (get_or f 0 0 < c + 1)) fs
  below_more c fs =
      All-weaker (λ f. RootWith m Q left f × (get_or f 0 0 < c)) (λ f. RootWith m Q left f × (get_or f 0 0 < c + 1)) (λ f r. (r.0, omega (arith, r.1))) fs

  pub roots_none : RootsBelow m Q left 0 []
  roots_none = record { alone = tt; complete = λ f r l. absurd (omega arith); once = tt }

  module _ (c : ℕ) (element : c < m.size) (fs : List (List ℕ)) (roots : RootsBelow m Q left c fs) where
    pub roots_same : ((g : List ℕ) → length g ≡ left - 1 → Elements m g → Root m Q (c ∷ g) → ⊥) → RootsBelow m Q left (c + 1) fs
    roots_same none = record { alone = below_more c fs roots.alone; complete = λ f r l. by f r l (ℕ_discrete (get_or f 0 0) c); once = roots.once }
      where
        by : (f : List ℕ) → RootWith m Q left f → get_or f 0 0 < c + 1 → Dec (get_or f 0 0 ≡ c) → ContainsAt fs f
        by f r l (yes e) = let t = rest_root c f r (follows c f r e) in absurd (none (drop 1 f) t.0 t.1 t.2)
        by f r l (no n) = roots.complete f r (omega arith)

    pub roots_more : (gs : List (List ℕ)) → Continuations m Q (left - 1) c gs → RootsBelow m Q left (c + 1) (fs ++ map (λ g. c ∷ g) gs)
    roots_more gs next = record {
      alone = All-append (λ f. RootWith m Q left f × (get_or f 0 0 < c + 1)) fs (map (λ g. c ∷ g) gs) (below_more c fs roots.alone)
          (All-map (λ f. RootWith m Q left f × (get_or f 0 0 < c + 1)) (λ g. c ∷ g) gs
          (All-weaker (λ g. (length g ≡ left - 1) × Elements m g × Root m Q (c ∷ g)) (λ g. RootWith m Q left (c ∷ g) × (c < c + 1))
          (λ g r. (whole_root c g element r, omega arith)) gs next.alone));
      complete = λ f r l. by f r l (ℕ_discrete (get_or f 0 0) c);
      once = distinct_append fs (map (λ g. c ∷ g) gs) roots.once (distinct_onto c gs next.once) (apart c fs gs roots.alone);
    }
      where
        by : (f : List ℕ) → RootWith m Q left f → get_or f 0 0 < c + 1 → Dec (get_or f 0 0 ≡ c) → ContainsAt (fs ++ map (λ g. c ∷ g) gs) f
        by f r l (yes e) =
            let is : f ≡ c ∷ drop 1 f = follows c f r e in
            let t = rest_root c f r is in
            subst (ContainsAt (fs ++ map (λ g. c ∷ g) gs)) (sym is)
            (has_append_right fs (map (λ g. c ∷ g) gs) (c ∷ drop 1 f) (has_onto c gs (drop 1 f) (next.complete (drop 1 f) t.0 t.1 t.2)))
        by f r l (no n) = has_append_left fs (map (λ g. c ∷ g) gs) f (roots.complete f r (omega arith))

    pub roots_too_many : (k count : ℕ) (before : List ℕ) (gs : List (List ℕ)) → count ≡ length fs
        → AllByRecursion (λ g. (length g ≡ left - 1) × Elements m g × Root m Q (c ∷ g)) gs → Distinct gs → length before < (count + length gs) * k
        → TooMany m Q left k before
    roots_too_many k count before gs told alone once over = (
      fs ++ map (λ g. c ∷ g) gs,
      All-append (RootWith m Q left) fs (map (λ g. c ∷ g) gs)
          (All-weaker (λ f. RootWith m Q left f × (get_or f 0 0 < c)) (RootWith m Q left) (λ f r. r.0) fs roots.alone)
          (All-map (RootWith m Q left) (λ g. c ∷ g) gs
          (All-weaker (λ g. (length g ≡ left - 1) × Elements m g × Root m Q (c ∷ g)) (λ g. RootWith m Q left (c ∷ g)) (λ g r. whole_root c g element r) gs alone)),
      distinct_append fs (map (λ g. c ∷ g) gs) roots.once (distinct_onto c gs once) (apart c fs gs roots.alone),
      subst (λ (n : ℕ). length before < n * k) sums over,
    )
      where
        sums : count + length gs ≡ length (fs ++ map (λ g. c ∷ g) gs)
        sums = omega (arith, length-append fs (map (λ g. c ∷ g) gs), length-map gs (λ (g : List ℕ). c ∷ g))

-- ---- what is written behind what stands

-- what stands is followed by what is written where there was room
module _ (at : ℕ) (now after : List ℕ) (within : at ≤ length now) where
  pub free_is : take (length now - at) (drop at now) ≡ drop at now
  free_is = take_rest now at

  pub free-length : length (take (length now - at) (drop at now)) + at ≡ length now
  free-length = omega (arith, ap length free_is, length-drop at now)

  pub behind : put_mid at (length now - at) now after ≡ take at now ++ after
  behind =
      let gone : drop (length now - at) (drop at now) ≡ [] = drop_all (length now - at) (drop at now) (omega (arith, length-drop at now)) in
      ap (λ (l : List ℕ). take at now ++ (after ++ l)) gone ∙ ap (λ (l : List ℕ). take at now ++ l) (append-nil after)

  pub behind-length : length after ≡ length (take (length now - at) (drop at now)) → length (put_mid at (length now - at) now after) ≡ length now
  behind-length e =
      ap length behind ∙ length-append (take at now) after ∙ omega (arith, e, free-length, length-take-le at now within)

-- what stands after the continuations of c
module _ (k c count more : ℕ) (chosen before now after : List ℕ) (fs gs : List (List ℕ)) (old : Written k chosen before fs count now)
    (new : Written k (chosen ++ (c ∷ [])) (take (length now - count * k) (drop (count * k) now)) gs more after) where
  abbrev whole : List ℕ
  whole = put_mid (count * k) (length now - count * k) now after

  split : (count + more) * k ≡ count * k + more * k
  split = add-mul count more k

  front : length (take (count * k) now) ≡ count * k
  front = length-take-le (count * k) now old.1

  written_within : (count + more) * k ≤ length whole
  written_within =
      let e : length whole ≡ length (take (count * k) now) + length after =
      ap length (behind (count * k) now after old.1) ∙ length-append (take (count * k) now) after in
      omega (arith, e, front, split, new.1)

  written_front : take ((count + more) * k) whole ≡ flat_map (λ f. chosen ++ f) (fs ++ map (λ g. c ∷ g) gs)
  written_front =
      ap₂ (λ (n : ℕ) (l : List ℕ). take n l) split (behind (count * k) now after old.1)
      ∙ ap (λ (n : ℕ). take (n + more * k) (take (count * k) now ++ after)) (sym front)
      ∙ take-append-add (take (count * k) now) after (more * k)
      ∙ ap₂ (λ (u v : List ℕ). u ++ v) old.2 (new.2 ∙ sym (joined_onto chosen c gs))
      ∙ sym (flat_map-append (λ (f : List ℕ). chosen ++ f) fs (map (λ g. c ∷ g) gs))

  written_beyond : drop ((count + more) * k) whole ≡ drop ((count + more) * k) before
  written_beyond =
      ap₂ (λ (n : ℕ) (l : List ℕ). drop n l) split (behind (count * k) now after old.1)
      ∙ ap (λ (n : ℕ). drop (n + more * k) (take (count * k) now ++ after)) (sym front)
      ∙ drop-append-add (take (count * k) now) after (more * k)
      ∙ new.3 ∙ ap (drop (more * k)) (free_is (count * k) now after old.1 ∙ old.3)
      ∙ drop-drop (more * k) (count * k) before ∙ ap (λ (n : ℕ). drop n before) (sym split)

  pub written_more : Written k chosen before (fs ++ map (λ g. c ∷ g) gs) (count + more) whole
  written_more = (
    omega (arith, old.0, new.0, length-append fs (map (λ g. c ∷ g) gs), length-map gs (λ (g : List ℕ). c ∷ g)),
    written_within,
    written_front,
    written_beyond,
  )

pub written_none : (k : ℕ) (chosen before : List ℕ) → Written k chosen before [] 0 before
written_none k chosen before = (
  refl,
  omega (arith, zero-mul k),
  ap (λ (n : ℕ). take n before) (zero-mul k),
  refl,
)

-- ---- where the search stands before it tries c

pub record Standing (m : FieldMeaning) (Q : List (List ℕ)) (left : ℕ) (path₀ found₀ : List ℕ) (c count : ℕ) (path found : List ℕ) : Type 0 where
  pub path_length : length path ≡ length path₀
  pub chosen : take (length path₀ - left) path ≡ take (length path₀ - left) path₀
  pub found_length : length found ≡ length found₀
  pub progress : Progress m Q left (length path₀) (take (length path₀ - left) path₀) found₀ c count found

-- the same state by other names
pub standing_by : (m : FieldMeaning) (Q : List (List ℕ)) (left : ℕ) (path₀ found₀ : List ℕ) (c t t' : ℕ) (p p' f f' : List ℕ)
    → t ≡ t' → p ≡ p' → f ≡ f' → Standing m Q left path₀ found₀ c t' p' f' → Standing m Q left path₀ found₀ c t p f
standing_by m Q left path₀ found₀ c t t' p p' f f' et ep ef s =
    subst (λ (x : ℕ). Standing m Q left path₀ found₀ c x p f) (sym et)
    (subst (λ (x : List ℕ). Standing m Q left path₀ found₀ c t' x f) (sym ep)
    (subst (λ (x : List ℕ). Standing m Q left path₀ found₀ c t' p' x) (sym ef) s))

module _ (m : FieldMeaning) (Q : List (List ℕ)) (left : ℕ) (first : 1 ≤ left) (path₀ found₀ : List ℕ) (fits : left ≤ length path₀) where
  pub standing_none : Standing m Q left path₀ found₀ 0 0 path₀ found₀
  standing_none = record {
    path_length = refl;
    chosen = refl;
    found_length = refl;
    progress = ([], roots_none m Q left first, written_none (length path₀) (take (length path₀ - left) path₀) found₀);
  }

  module _ (c count : ℕ) (path found : List ℕ) (element : c < m.size) (state : Standing m Q left path₀ found₀ c count path found) where
    -- what was written has room
    pub counted : count * length path₀ ≤ length found
    counted = state.progress.2.1

    -- the room that is left
    abbrev free : List ℕ
    free = take (length found - count * length path₀) (drop (count * length path₀) found)

    -- no root begins with c
    pub standing_same : ((g : List ℕ) → length g ≡ left - 1 → Elements m g → Root m Q (c ∷ g) → ⊥) → Standing m Q left path₀ found₀ (c + 1) count path found
    standing_same none =
        let p = state.progress in
        record {
          path_length = state.path_length;
          chosen = state.chosen;
          found_length = state.found_length;
          progress = (p.0, roots_same m Q left first c element p.0 p.1 none, p.2);
        }

    -- with c entered, the path holds what was chosen and c
    pub path_more : take (length path₀ - left + 1) (set path (length path₀ - left) c) ≡ take (length path₀ - left) path₀ ++ (c ∷ [])
    path_more =
        take_more_set path (length path₀ - left) c (omega (arith, state.path_length))
        ∙ ap (λ (l : List ℕ). l ++ (c ∷ [])) state.chosen

    -- gs are the continuations of c, and are written where there was room
    pub standing_more : (gs : List (List ℕ)) (more : ℕ) (path' after : List ℕ) → Continuations m Q (left - 1) c gs
        → length path' ≡ length path₀ → take (length path₀ - left) path' ≡ take (length path₀ - left) path₀ → length after ≡ length free
        → Written (length path₀) (take (length path₀ - left) path₀ ++ (c ∷ [])) free gs more after
        → Standing m Q left path₀ found₀ (c + 1) (count + more) path' (put_mid (count * length path₀) (length found - count * length path₀) found after)
    standing_more gs more path' after next pl pc fl new =
        let p = state.progress in
        record {
          path_length = pl;
          chosen = pc;
          found_length = behind-length (count * length path₀) found after counted fl ∙ state.found_length;
          progress = (
            p.0 ++ map (λ g. c ∷ g) gs,
            roots_more m Q left first c element p.0 p.1 gs next,
            written_more (length path₀) c count more (take (length path₀ - left) path₀) found₀ found after p.0 gs p.2 new,
          );
        }

    pub standing_over : (gs : List (List ℕ)) → AllByRecursion (λ g. (length g ≡ left - 1) × Elements m g × Root m Q (c ∷ g)) gs → Distinct gs
        → length free < length gs * length path₀ → TooMany m Q left (length path₀) found₀
    standing_over gs alone once over =
        let p = state.progress in
        roots_too_many m Q left first c element p.0 p.1 (length path₀) count found₀ gs p.2.0 alone once
        (omega (arith, over, free-length (count * length path₀) found [] counted, state.found_length, add-mul count (length gs) (length path₀)))

  pub standing_all : (c count : ℕ) (path found : List ℕ) → c ≡ m.size → Standing m Q left path₀ found₀ c count path found
      → Told m Q left (length path₀) (take (length path₀ - left) path₀) found₀ found (Some count)
  standing_all c count path found e state =
      let p = state.progress in
      (p.0, subst (λ (n : ℕ). RootsBelow m Q left n p.0) e p.1, p.2)

-- ---- the last coefficient

module _ (m : FieldMeaning) (Q : List (List ℕ)) (path₀ found₀ : List ℕ) (some : 1 ≤ length path₀)
    (c count : ℕ) (path found : List ℕ) (element : c < m.size) (state : Standing m Q 1 path₀ found₀ c count path found) where
  empty : (g : List ℕ) → length g ≡ 1 - 1 → g ≡ []
  empty [] e = refl
  empty (x ∷ g) e = absurd (omega arith)

  pub last_same : ¬ (Root m Q (c ∷ [])) → Standing m Q 1 path₀ found₀ (c + 1) count path found
  last_same n =
      standing_same m Q 1 (omega arith) path₀ found₀ some c count path found element state
      (λ g e h r. n (subst (λ (t : List ℕ). Root m Q (c ∷ t)) (empty g e) r))

  abbrev entry : List ℕ
  entry = set path (length path₀ - 1) c

  pub entry_length : length entry ≡ length path₀
  entry_length = length-set path (length path₀ - 1) c ∙ state.path_length

  entry_is : entry ≡ take (length path₀ - 1) path₀ ++ (c ∷ [])
  entry_is =
      let e : length path₀ - 1 + 1 ≡ length path₀ = omega arith in
      sym (ap (λ (n : ℕ). take n entry) e ∙ take_all (length path₀) entry (omega (arith, entry_length)))
      ∙ path_more m Q 1 (omega arith) path₀ found₀ some c count path found element state

  pub last_path : take (length path₀ - 1) entry ≡ take (length path₀ - 1) path₀
  last_path = take-set-le (length path₀ - 1) path (length path₀ - 1) c (omega arith) ∙ state.chosen

  alone_empty : Root m Q (c ∷ []) → AllByRecursion (λ g. (length g ≡ 1 - 1) × Elements m g × Root m Q (c ∷ g)) ([] ∷ [])
  alone_empty r = ((omega arith, tt, r), tt)

  abbrev room : List ℕ
  room = take (length found - count * length path₀) (drop (count * length path₀) found)

  size : 1 * length path₀ ≡ length entry
  size = one-mul (length path₀) ∙ sym entry_length

  -- the root is entered where there was room
  pub last_more : Root m Q (c ∷ []) → (after : List ℕ) → length after ≡ length room
      → (length entry ≤ length room) × (take (length entry) after ≡ entry) × (drop (length entry) after ≡ drop (length entry) room)
      → Standing m Q 1 path₀ found₀ (c + 1) (count + 1) entry (put_mid (count * length path₀) (length found - count * length path₀) found after)
  last_more r after fl entered =
      standing_more m Q 1 (omega arith) path₀ found₀ some c count path found element state ([] ∷ []) 1 entry after
      record { alone = alone_empty r; complete = λ g e h t. (0, omega arith, λ d. sym (empty g e)); once = (tt, tt) }
      entry_length last_path fl (
        refl,
        omega (arith, entered.0, fl, size),
        ap (λ (n : ℕ). take n after) size ∙ entered.1 ∙ entry_is ∙ sym (append-nil _) ∙ sym (append-nil _),
        ap (λ (n : ℕ). drop n after) size ∙ entered.2 ∙ ap (λ (n : ℕ). drop n room) (sym size),
      )

  pub last_over : Root m Q (c ∷ []) → length room < length entry → TooMany m Q 1 (length path₀) found₀
  last_over r over =
      standing_over m Q 1 (omega arith) path₀ found₀ some c count path found element state ([] ∷ []) (alone_empty r) (tt, tt)
      (omega (arith, over, size))

-- ---- a coefficient before the last: what the stage below it tells

module _ (m : FieldMeaning) (laws : FieldLaws m) (Q Q' : List (List ℕ)) (left c : ℕ)
    (roots : (f : List ℕ) → Elements m f → Root m Q (c ∷ f) ↔ Root m Q' f) where
  alone_below : (gs : List (List ℕ)) → AllByRecursion (RootWith m Q' (left - 1)) gs → AllByRecursion (λ g. (length g ≡ left - 1) × Elements m g × Root m Q (c ∷ g)) gs
  alone_below =
      All-weaker (RootWith m Q' (left - 1)) (λ g. (length g ≡ left - 1) × Elements m g × Root m Q (c ∷ g))
      (λ g r. (r.coefficients, r.elements, (roots g r.elements).1 r.root))

  continuations : (gs : List (List ℕ)) → RootsBelow m Q' (left - 1) m.size gs → Continuations m Q (left - 1) c gs
  continuations gs told = record {
    alone = alone_below gs (All-weaker (λ f. RootWith m Q' (left - 1) f × (get_or f 0 0 < m.size)) (RootWith m Q' (left - 1)) (λ f r. r.0) gs told.alone);
    complete = λ g e h r. told.complete g record { coefficients = e; elements = h; root = (roots g h).0 r } (get_or-element m laws g 0 h);
    once = told.once;
  }

-- the search tries c as one of the last `left` coefficients, and Q' is the polynomial for those after it
pub record Tried (m : FieldMeaning) (Q Q' : List (List ℕ)) (left : ℕ) (path₀ found₀ : List ℕ) (c count : ℕ) (path found : List ℕ) : Type 0 where
  pub roots : (f : List ℕ) → Elements m f → Root m Q (c ∷ f) ↔ Root m Q' f
  pub deep : 2 ≤ left
  pub fits : left ≤ length path₀
  pub element : c < m.size
  pub state : Standing m Q left path₀ found₀ c count path found

module _ (m : FieldMeaning) (laws : FieldLaws m) (Q Q' : List (List ℕ)) (left : ℕ) (path₀ found₀ : List ℕ) (c count : ℕ) (path found : List ℕ)
    (tried : Tried m Q Q' left path₀ found₀ c count path found) where
  abbrev chosen : List ℕ
  chosen = set path (length path₀ - left) c

  pub chosen-length : length chosen ≡ length path₀
  chosen-length = length-set path (length path₀ - left) c ∙ tried.state.path_length

  chosen_front : take (length chosen - (left - 1)) chosen ≡ take (length path₀ - left) path₀ ++ (c ∷ [])
  chosen_front =
      let e : length chosen - (left - 1) ≡ length path₀ - left + 1 = omega (arith, chosen-length, tried.deep, tried.fits) in
      ap (λ (n : ℕ). take n chosen) e
      ∙ path_more m Q left (omega (arith, tried.deep)) path₀ found₀ tried.fits c count path found tried.element tried.state

  -- the recursion may be called
  pub chosen_fits : left - 1 ≤ length chosen
  chosen_fits = omega (arith, chosen-length, tried.deep, tried.fits)

  abbrev free_below : List ℕ
  free_below = take (length found - count * length path₀) (drop (count * length path₀) found)

  module _ (path' : List ℕ) (same-path : length path' ≡ length chosen) (same_chosen : take (length chosen - (left - 1)) path' ≡ take (length chosen - (left - 1)) chosen) where
    pub path_length_below : length path' ≡ length path₀
    path_length_below = same-path ∙ chosen-length

    pub path_below : take (length path₀ - left) path' ≡ take (length path₀ - left) path₀
    path_below =
        let n : ℕ = length path₀ - left in
        let more : length chosen - (left - 1) ≡ n + 1 = omega (arith, chosen-length, tried.deep, tried.fits) in
        let same : take (n + 1) path' ≡ take (n + 1) chosen = subst (λ (k : ℕ). take k path' ≡ take k chosen) more same_chosen in
        sym (take-take n (n + 1) path' (omega arith)) ∙ ap (take n) same ∙ take-take n (n + 1) chosen (omega arith)
        ∙ take-set-le n path n c (omega arith) ∙ tried.state.chosen

    pub branch_more : (after : List ℕ) → length after ≡ length free_below → (more : ℕ) → Told m Q' (left - 1) (length chosen) (take (length chosen - (left - 1)) chosen) free_below after (Some more)
        → Standing m Q left path₀ found₀ (c + 1) (count + more) path' (put_mid (count * length path₀) (length found - count * length path₀) found after)
    branch_more after same-room more told =
        let new : Written (length path₀) (take (length path₀ - left) path₀ ++ (c ∷ [])) free_below told.0 more after =
        subst (λ (t : List ℕ). Written (length path₀) t free_below told.0 more after) chosen_front
        (subst (λ (k : ℕ). Written k (take (length chosen - (left - 1)) chosen) free_below told.0 more after) chosen-length told.2) in
        standing_more m Q left (omega (arith, tried.deep)) path₀ found₀ tried.fits c count path found tried.element tried.state told.0 more path' after
        (continuations m laws Q Q' left c tried.roots told.0 told.1) path_length_below path_below same-room new

    pub branch_over : (after : List ℕ) → Told m Q' (left - 1) (length chosen) (take (length chosen - (left - 1)) chosen) free_below after None
        → TooMany m Q left (length path₀) found₀
    branch_over after told =
        standing_over m Q left (omega (arith, tried.deep)) path₀ found₀ tried.fits c count path found tried.element tried.state told.0
        (alone_below m laws Q Q' left c tried.roots told.0 told.1) told.2
        (subst (λ (k : ℕ). length free_below < length told.0 * k) chosen-length told.3)
