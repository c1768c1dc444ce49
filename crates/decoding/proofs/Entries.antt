-- What is read of a group, and what is entered behind the polynomials that were found.
-- Assumes nothing.
use Rattle.std.proofs.Common.{◌≡◌, ℕ, suc, ◌+◌, ◌*◌, ◌/◌, ◌<◌, ◌≤◌, ◌↔◌, Bool, true, eqb, List, [], ◌∷◌, length, take, drop, Some, None, Option, subst, refl, sym, ap, ◌∙◌, suc-mul, mul_comm, zero-mul, arith}
use denote.Ref.{Bor}
use Rattle.std.specs.Option.{IfSome, IsSomeAnd, option_eq, option_map}
use Rattle.std.specs.List.{IsSubsliceAt, slice_index_or}
use Rattle.std.specs.Iterator.Runs.{Run, AllItems, AnyItem, IsChunksExactRun}
use Rattle.std.proofs.Math.Nat.{mul-div_cancel}
use Rattle.std.proofs.lemmas.Nat.{le-div}
use Rattle.field.specs.Meaning.{FieldMeaning, FieldLaws}
use Rattle.field.specs.Polynomial.{value_at}
use Rattle.bivariate.specs.Bivariate.{Elements, Root}
use Rattle.bivariate.specs.Grid.{group, grid}
use Rattle.bivariate.specs.Values.{value_answer}
use Rattle.bivariate.proofs.ValueSteps.{value_answered}
use Rattle.bivariate.proofs.GridRoots.{root_first, root_one}

module _ (m : FieldMeaning) (laws : FieldLaws m) (w d c : ℕ) (cs : List ℕ) (elements : Elements m cs) (element : c < m.size) (sized : length cs ≡ d * w) where
  -- c is a root exactly if each group is 0 at c
  pub root_by_groups : Root m (grid w d cs) (c ∷ []) ↔ ((g : ℕ) → g < d → value_at m (group w cs g) c ≡ 0)
  root_by_groups = root_one m laws w d cs c elements element (sized ∙ mul_comm d w)

  -- where what stands without x is not 0 at c, no root begins with c
  pub no_beginning : 1 ≤ d → ¬ (value_at m (group w cs 0) c ≡ 0) → (g : List ℕ) → Elements m g → Root m (grid w d cs) (c ∷ g) → ⊥
  no_beginning some n g h r = n (root_first m laws w d cs c g elements element h (sized ∙ mul_comm d w) some r)

pub first_group : (w : ℕ) (cs : List ℕ) → take w cs ≡ group w cs 0
first_group w cs = ap (λ (s : ℕ). take w (drop s cs)) (sym (zero-mul w))

-- there are d groups
pub group-count : (w d : ℕ) (cs : List ℕ) → 1 ≤ w → length cs ≡ d * w → length cs / w ≡ d
group-count w d cs h e = ap (λ (n : ℕ). n / w) e ∙ mul-div_cancel d h

pub group_below : (w d g : ℕ) (cs : List ℕ) → 1 ≤ w → length cs ≡ d * w → g * w + w ≤ length cs → g < d
group_below w d g cs h e l = omega (arith, le-div (suc g) (length cs) w h (omega (arith, suc-mul g w, l)), group-count w d cs h e)

-- ---- a value that is asked for 0

-- whether the answer for the part of a list is 0 says whether the value is
pub zero_answered : (m : FieldMeaning) (p q : List ℕ) (c : ℕ) (b : Bool) → p ≡ q → Elements m q → c < m.size
    → b ≡ option_eq eqb (value_answer m p c) (Some 0) → b ≡ eqb (value_at m q c) 0
zero_answered m p q c b same h l e =
    e ∙ ap (λ (o : Option ℕ). option_eq eqb o (Some 0)) (ap (λ (k : List ℕ). value_answer m k c) same ∙ value_answered m q c h l)

-- what `all` went over: the groups of a list
module _ {S : Type 0} {steps : S → Option (Bor (List ℕ)) → S → Type 0} (p : Run steps) (any : Bor (List ℕ)) (w : ℕ) (cs : List ℕ) (groups : IsChunksExactRun p w cs)
    (Passes : Bor (List ℕ) → Type 0) where
  here : (g : ℕ) (x : Bor (List ℕ)) → p.at g ≡ Some x → (g * w + w ≤ length cs) × (x.now ≡ group w cs g)
  here g x e =
      let k = subst (λ (o : Option (Bor (List ℕ))). IfSome o (λ y. (length y.now ≡ w) × (g * w + w ≤ length cs) × IsSubsliceAt w cs (g * w) y.now)) e (groups.2 g) in
      (k.1, k.2.0)

  -- where all passed, each group did
  pub each_passed : p.whole ≡ true → AllItems p Passes → (g : ℕ) → g < length cs / w → (x : Bor (List ℕ)) × (x.now ≡ group w cs g) × Passes x
  each_passed whole passed g h = by (p.at g) refl
    where
      by : (o : Option (Bor (List ℕ))) → p.at g ≡ o → (x : Bor (List ℕ)) × (x.now ≡ group w cs g) × Passes x
      by None e =
          let k : option_map (λ (y : Bor (List ℕ)). y) (p.at g) ≡ Some (slice_index_or p.items g any) = p.reads g any (omega (arith, groups.1 whole)) in
          absurd cc
      by (Some x) e = (x, (here g x e).1, subst (λ (o : Option (Bor (List ℕ))). IfSome o Passes) e (passed g))

  -- one that passed is a group
  pub some_passed : AnyItem p Passes → (g : ℕ) × (g * w + w ≤ length cs) × (x : Bor (List ℕ)) × (x.now ≡ group w cs g) × Passes x
  some_passed (g, l, passed) = by (p.at g) refl
    where
      by : (o : Option (Bor (List ℕ))) → p.at g ≡ o → (g : ℕ) × (g * w + w ≤ length cs) × (x : Bor (List ℕ)) × (x.now ≡ group w cs g) × Passes x
      by None e = absurd (subst (λ (o : Option (Bor (List ℕ))). IsSomeAnd o Passes) e passed)
      by (Some x) e = (g, (here g x e).0, x, (here g x e).1, subst (λ (o : Option (Bor (List ℕ))). IsSomeAnd o Passes) e passed)
