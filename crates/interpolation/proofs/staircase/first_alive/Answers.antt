use Rattle.std.proofs.Common.{rules, tests, ◌≡◌, ℕ, ◌*◌, ◌-◌, ◌<◌, ◌+◌, length, List, [], ◌∷◌, refl, sym, ap, subst, arith, ◌∙◌}
use Rattle.std.specs.List.{FoldsTo}
use Rattle.std.specs.Option.{option_map}
use Rattle.std.proofs.lemmas.Iterator.{YieldsList-from_range}
use Rattle.std.proofs.lemmas.Iterator.Search.{find_from_yields_List}
use Rattle.std.proofs.lemmas.Iterator.Consumers.{YieldsList-turn}
use Rattle.std.proofs.lemmas.Nat.{mul-add-lt}
use Rattle.std.proofs.lemmas.List.FromFn.{get_or-range_with_len, length-range_with_len}
use Rattle.interpolation.proofs.AliveCount.{living, count_not_found}
use Rattle.interpolation.proofs.staircase.first_alive.Goals as goal

-- calls that each leave a value as it was leave it so together
kept : {A P : Type 0} (R : P → A → P → Type 0) (p : P) → ((x : A) (q : P) → R p x q → q ≡ p) → (xs : List A) (q : P) → FoldsTo R p xs q → q ≡ p
kept R p k [] q f = sym f
kept R p k (x ∷ xs) q f = kept R p k xs q (subst (λ r. FoldsTo R r xs q) (k x f.0 f.1) f.2)

pub find-requires-clause-callable : goal.find-requires-clause-callable
find-requires-clause-callable c = record {
  at = λ xs t q x u y f s.
      let w : ℕ = c.args.w in
      let whole : w - 0 ≡ w = omega arith in
      let turn = YieldsList-turn (YieldsList-from_range 0 w w refl whole) xs t y _ u x refl s in
      let within : length xs < w = omega (arith, turn.0, length-range_with_len 0 w) in
      let hx : x < w = omega (arith, turn.1, within, get_or-range_with_len 0 w (length xs) x within) in
      let low : x * w + x < w * w = mul-add-lt x w x w hx hx in
      let same = kept _ _ (λ z r k. search (rules, tests)) xs q f in
      let slice = ap (λ p. p.0) same in
      let width = ap (λ p. p.1) same in
      search (rules, tests, low, slice, width);
}

pub returns-in_err-t-clause-none : goal.returns-in_err-t-clause-none
returns-in_err-t-clause-none c =
    let w : ℕ = c.args.w in
    let whole : w - 0 ≡ w = omega arith in
    let none = count_not_found w c.args.vectors.now w
    (sym (find_from_yields_List (living w c.args.vectors.now) _ _ _ c.find.ensures.ran (YieldsList-from_range 0 w w refl whole) (λ x b q k. search (rules, tests)))
    ∙ ap (option_map (λ x. x)) c.in_err-t.was) in
    search (rules, none)
