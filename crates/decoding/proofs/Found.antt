-- What stands in the bytes for the roots after a search.
-- Assumes nothing.
use Rattle.std.proofs.Common.{◌≡◌, ℕ, suc, ◌+◌, ◌*◌, ◌<◌, ◌≤◌, List, [], ◌∷◌, ◌++◌, length, get_or, take, drop, Some, None, Option, sym, refl, ap, ◌∙◌, subst, ap₂, mul-le-mul_right, suc-mul, arith}
use Rattle.std.specs.Option.{IsSome}
use Rattle.std.specs.List.{flat_map, AllByRecursion}
use Rattle.std.proofs.ByRecursion.{All-weaker}
use Rattle.std.proofs.lemmas.List.{take-take, take_at, drop_at, drop-take}
use Rattle.field.specs.Meaning.{FieldMeaning, FieldLaws}
use Rattle.bivariate.specs.Bivariate.{Distinct}
use Rattle.bivariate.specs.Terms.{most_y, polynomial}
use Rattle.bivariate.proofs.Embedding.{get_or-element}
use Rattle.decoding.specs.Decoding.{pieces, RootsFound, found_bytes}
use Rattle.decoding.specs.Roots.{RootWith, TooMany, Told}

-- ---- what was entered, taken apart

split_pieces : (k : ℕ) (fs : List (List ℕ)) (l : List ℕ) → AllByRecursion (λ f. length f ≡ k) fs → take (length fs * k) l ≡ flat_map (λ f. [] ++ f) fs → pieces k (length fs) l ≡ fs
split_pieces k [] l h e = refl
split_pieces k (f ∷ fs) l h e =
    let size : suc (length fs) * k ≡ k + length fs * k = omega (arith, suc-mul (length fs) k) in
    let whole : take (k + length fs * k) l ≡ f ++ flat_map (λ g. [] ++ g) fs = subst (λ (n : ℕ). take n l ≡ f ++ flat_map (λ g. [] ++ g) fs) size e in
    let first : take k l ≡ f = sym (take-take k (k + length fs * k) l (omega arith)) ∙ ap (take k) whole ∙ take_at f _ k h.0 in
    let rest : take (length fs * k) (drop k l) ≡ flat_map (λ g. [] ++ g) fs =
    sym (drop-take k (length fs * k) l) ∙ ap (drop k) whole ∙ drop_at f _ k h.0 in
    ap₂ (λ (u : List ℕ) (v : List (List ℕ)). u ∷ v) first (split_pieces k fs (drop k l) h.1 rest)

module _ (m : FieldMeaning) (laws : FieldLaws m) (a d : ℕ) (cs found : List ℕ) (room : found_bytes a d ≤ length found)
    (few : (fs : List (List ℕ)) → AllByRecursion (RootWith m (polynomial a d cs) (suc a)) fs → Distinct fs → length fs ≤ most_y a d) where
  -- there is room for all
  pub never_full : TooMany m (polynomial a d cs) (suc a) (suc a) found → ⊥
  never_full (fs, roots, once, over) =
      let bound : length fs * suc a ≤ most_y a d * suc a = mul-le-mul_right (suc a) (few fs roots once) in
      omega (arith, over, bound)

  pub always_some : (after : List ℕ) (r : Option ℕ) → Told m (polynomial a d cs) (suc a) (suc a) [] found after r → IsSome r
  always_some after (Some n) told = refl
  always_some after None told = absurd (never_full told)

  module _ (n : ℕ) (after : List ℕ) (told : Told m (polynomial a d cs) (suc a) (suc a) [] found after (Some n)) where
    fs : List (List ℕ)
    fs = told.0

    alone : AllByRecursion (RootWith m (polynomial a d cs) (suc a)) fs
    unfolding fs
    alone =
        All-weaker (λ f. RootWith m (polynomial a d cs) (suc a) f × (get_or f 0 0 < m.size)) (RootWith m (polynomial a d cs) (suc a)) (λ f r. r.0) told.0 told.1.alone

    taken_apart : pieces (suc a) n after ≡ fs
    unfolding fs
    taken_apart =
        ap (λ (k : ℕ). pieces (suc a) k after) told.2.0
        ∙ split_pieces (suc a) fs after (All-weaker (RootWith m (polynomial a d cs) (suc a)) (λ f. length f ≡ suc a) (λ f r. r.coefficients) fs alone)
        (ap (λ (k : ℕ). take (k * suc a) after) (sym told.2.0) ∙ told.2.2)

    pub roots_found : RootsFound m (polynomial a d cs) (suc a) (most_y a d) (pieces (suc a) n after)
    unfolding fs
    roots_found = subst (RootsFound m (polynomial a d cs) (suc a) (most_y a d)) (sym taken_apart) record {
      alone = alone;
      complete = λ f r. told.1.complete f r (get_or-element m laws f 0 r.elements);
      once = told.1.once;
      few = few told.0 alone told.1.once;
    }
