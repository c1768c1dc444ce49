-- What an answer to the question for a symbol says.
-- Assumes nothing.
use Rattle.std.specs.Prelude.{◌≡◌, ℕ, ◌<◌, ◌≤◌, Bool, true, false, cond, ◌&&◌, Some, None, nat_lt, refl}
use Rattle.std.proofs.Common.{sym, ap, ◌∙◌, subst, arith, lit<, lit≤}
use Rattle.std.proofs.lemmas.Bool.{lt-ltb, le-ltb, ltb-true, and_from, and_left, and_right, cond-true, cond-false}
use Rattle.field.specs.Polynomial.{agreements}
use Rattle.code.specs.Meaning.{CodeMeaning, CodeLaws, symbol_at, shared_positions, lone}

some_both : (a b : Bool) (x s : ℕ) → Some s ≡ cond (a && b) (Some x) None → (a ≡ true) × (b ≡ true) × (s ≡ x)
some_both true true x s e = (refl, refl, cc)
some_both true false x s e = let z : ◌≡◌ {A = ℕ} 0 1 = cc in absurd (omega arith)
some_both false b x s e = let z : ◌≡◌ {A = ℕ} 0 1 = cc in absurd (omega arith)

pub symbol_some : (m : CodeMeaning) (u i s : ℕ) → Some s ≡ symbol_at m u i → (u < m.users) × (i < m.length) × (s ≡ m.symbol u i)
symbol_some m u i s e =
    let h = some_both (nat_lt u m.users) (nat_lt i m.length) (m.symbol u i) s e in
    (ltb-true _ _ h.0, ltb-true _ _ h.1, h.2)

pub symbol_in : (m : CodeMeaning) (u i : ℕ) → u < m.users → i < m.length → symbol_at m u i ≡ Some (m.symbol u i)
symbol_in m u i x y = cond-true _ _ _ (and_from _ _ (lt-ltb _ _ x) (lt-ltb _ _ y))

pub symbol_no_user : (m : CodeMeaning) (u i : ℕ) → m.users ≤ u → symbol_at m u i ≡ None
symbol_no_user m u i h = cond-false _ _ _ (and_left _ _ (le-ltb _ _ h))

pub symbol_no_position : (m : CodeMeaning) (u i : ℕ) → m.length ≤ i → symbol_at m u i ≡ None
symbol_no_position m u i h = cond-false _ _ _ (and_right _ _ (le-ltb _ _ h))

-- two users of the least code are one user
pub lone_laws : CodeLaws lone
lone_laws = record {
  users_low = lit≤ tt;
  users_high = lit≤ tt;
  length_low = lit≤ tt;
  length_high = lit≤ tt;
  alphabet_low = lit≤ tt;
  alphabet_high = lit≤ tt;
  overlap_high = lit≤ tt;
  symbol_below = λ u i x y. lit< tt;
  overlap_holds = λ u v x y ne. absurd (ne (omega arith));
}

-- what a loop over the positions has counted, where both users are in range
pub shared_counted : (m : CodeMeaning) (u v n count : ℕ) → u < m.users → v < m.users → n ≡ m.length → count ≡ agreements (m.symbol u) (m.symbol v) n
    → Some count ≡ shared_positions m u v
shared_counted m u v n count hu hv len e =
    ap Some (e ∙ ap (agreements (m.symbol u) (m.symbol v)) len)
    ∙ sym (cond-true _ _ _ (and_from _ _ (lt-ltb _ _ hu) (lt-ltb _ _ hv)))

pub shared_few : (m : CodeMeaning) → CodeLaws m → (u v n count : ℕ) → u < m.users → v < m.users → n ≡ m.length → count ≡ agreements (m.symbol u) (m.symbol v) n
    → ¬ (u ≡ v) → count ≤ m.overlap
shared_few m laws u v n count hu hv len e ne =
    subst (λ (c : ℕ). c ≤ m.overlap) (sym (e ∙ ap (agreements (m.symbol u) (m.symbol v)) len)) (laws.overlap_holds u v hu hv ne)
