-- The laws of the plain and of the doubly extended code.
-- Assumes nothing.
use Rattle.std.specs.Prelude.{◌≡◌, ℕ, zero, suc, ◌+◌, ◌-◌, ◌/◌, ◌%◌, ◌^◌, ◌<◌, ◌≤◌, Bool, true, false, cond, ◌⊎◌, List, [], ◌∷◌, ◌++◌, length, ◌==◌, slice_index}
use Rattle.std.proofs.Math.Path.{sym, ap, ap₂}
use Rattle.std.proofs.Common.{◌∙◌, subst, inl, inr, mod-lt, add-one}
use Rattle.std.proofs.Math.Logic.{⊎_elim}
use Rattle.std.proofs.Math.Nat.{one-le-pow}
use native.Mathlib.Omega.{arith}
use Rattle.std.proofs.lemmas.Bool.{cases_lt, cases_eq, lt-ltb, le-ltb, ne_eqb, cond-true, cond-false}
use Rattle.field.specs.Meaning.{FieldMeaning, FieldLaws}
use Rattle.field.specs.Polynomial.{value_at, agreements}
use Rattle.field.proofs.Numbers.{value_below, few_agreements, values_under_top}
use Rattle.code.specs.Meaning.{CodeLaws}
use Rattle.reed_solomon.specs.Polynomials.{digits}
use Rattle.reed_solomon.specs.Plain.{plain}
use Rattle.reed_solomon.specs.DoublyExtended.{doubly_extended}
use Rattle.code.specs.Counting.{agreements_same, agreements_more}
use Rattle.reed_solomon.specs.Digits.{digits-length, digits_below, digits_tell, digits_top, top_digit}

module _ (f : FieldMeaning) (laws : FieldLaws f) where
  some : 0 < f.size
  some = omega (arith, laws.size_low)

  -- different users have different polynomials, and so fewer than k common values
  few : (k n u v : ℕ) → n ≤ f.size → u < f.size ^ k → v < f.size ^ k → ¬ (u ≡ v)
      → agreements (value_at f (digits f.size k u)) (value_at f (digits f.size k v)) n < k
  few k n u v h hu hv ne =
      let q = f.size in
      subst (λ (l : ℕ). agreements (value_at f (digits q k u)) (value_at f (digits q k v)) n < l) (digits-length q k u)
      (few_agreements f laws (digits q k u) (digits q k v) (digits_below q some k u) (digits_below q some k v)
      (digits-length q k u ∙ sym (digits-length q k v)) (λ e. ne (digits_tell q some k u v hu hv e)) n h)

  pub plain_laws : (n k : ℕ) → 2 ≤ k → k ≤ n → n ≤ f.size → f.size ^ k ≤ 2 ^ 32 → CodeLaws (plain f n k)
  plain_laws n k low high within count = record {
    users_low = one-le-pow k f.size some;
    users_high = count;
    length_low = omega arith;
    length_high = omega (arith, laws.size_high);
    alphabet_low = laws.size_low;
    alphabet_high = laws.size_high;
    overlap_high = omega arith;
    symbol_below = λ u i x y. value_below f laws (digits f.size k u) (digits_below f.size some k u) i (omega arith);
    overlap_holds = λ u v x y ne. omega (arith, few k n u v within x y ne);
  }

  -- ---- the position of the top coefficient

  top : ℕ → ℕ → ℕ
  top k u = u / f.size ^ k % f.size

  -- where the top coefficients are equal, the polynomials without them are different and have the other common values
  few_under_top : (k u v : ℕ) → u < f.size ^ suc k → v < f.size ^ suc k → ¬ (u ≡ v) → top k u ≡ top k v
      → agreements (value_at f (digits f.size (suc k) u)) (value_at f (digits f.size (suc k) v)) f.size < k
  unfolding top
  few_under_top k u v hu hv ne e =
      let q = f.size in
      let low : ℕ → List ℕ = digits q k in
      let length-same : length (low u) ≡ length (low v) = digits-length q k u ∙ sym (digits-length q k v) in
      let under : (x : ℕ) → x < q → value_at f (digits q (suc k) u) x ≡ value_at f (digits q (suc k) v) x → value_at f (low u) x ≡ value_at f (low v) x =
      λ x hx h.
      values_under_top f laws (low u) (low v) (top k u) x (digits_below q some k u) (digits_below q some k v) (mod-lt _ some) hx length-same
      (ap (λ l. value_at f l x) (sym (digits_top q k u)) ∙ h ∙ ap (λ l. value_at f l x) (digits_top q k v)
      ∙ ap (λ (c : ℕ). value_at f (low v ++ (c ∷ [])) x) (sym e)) in
      let apart : ¬ (low u ≡ low v) =
      λ same. ne (digits_tell q some (suc k) u v hu hv (digits_top q k u ∙ ap₂ (λ l (c : ℕ). l ++ (c ∷ [])) same e ∙ sym (digits_top q k v))) in
      let fewer = few_agreements f laws (low u) (low v) (digits_below q some k u) (digits_below q some k v) length-same apart q (omega arith) in
      omega (
        arith,
        digits-length q k u,
        fewer,
        agreements_more (value_at f (digits q (suc k) u)) (value_at f (digits q (suc k) v)) (value_at f (low u)) (value_at f (low v)) q under,
      )

  element_symbol : (k u i : ℕ) → i < f.size → (doubly_extended f k).symbol u i ≡ value_at f (digits f.size k u) i
  element_symbol k u i h = cond-true _ _ _ (lt-ltb _ _ h)

  top_symbol : (k u : ℕ) → (doubly_extended f (suc k)).symbol u f.size ≡ u / f.size ^ k % f.size
  top_symbol k u =
      let last : suc k - 1 ≡ k = omega arith in
      cond-false _ _ _ (le-ltb f.size f.size (omega arith))
      ∙ ap (λ (j : ℕ). slice_index (digits f.size (suc k) u) j) last ∙ top_digit f.size k u

  extended_few : (k u v : ℕ) → u < f.size ^ suc k → v < f.size ^ suc k → ¬ (u ≡ v)
      → agreements ((doubly_extended f (suc k)).symbol u) ((doubly_extended f (suc k)).symbol v) (suc f.size) ≤ k
  unfolding top
  extended_few k u v hu hv ne =
      let q = f.size in
      let S = (doubly_extended f (suc k)).symbol in
      let V : ℕ → ℕ → ℕ = λ w. value_at f (digits q (suc k) w) in
      let elements : agreements (S u) (S v) q ≡ agreements (V u) (V v) q =
      agreements_same (S u) (S v) (V u) (V v) q (element_symbol (suc k) u) (element_symbol (suc k) v) in
      ⊎_elim
      (λ e. omega (arith, elements, few_under_top k u v hu hv ne e, one (S u q == S v q)))
      (λ d. omega (
        arith,
        elements,
        few (suc k) q u v (omega arith) hu hv ne,
        cond-false {A = ℕ} _ 1 0 (ne_eqb (S u q) (S v q) (λ e. d (sym (top_symbol k u) ∙ e ∙ top_symbol k v))),
      ))
      (cases_eq (top k u) (top k v))
    where
      one : (b : Bool) → cond b 1 0 ≤ 1
      one true = omega arith
      one false = omega arith

  pub extended_laws : (k : ℕ) → 2 ≤ k → k ≤ f.size → f.size ^ k ≤ 2 ^ 32 → CodeLaws (doubly_extended f k)
  extended_laws zero low high count = absurd (omega arith)
  extended_laws (suc k) low high count = record {
    users_low = one-le-pow (suc k) f.size some;
    users_high = count;
    length_low = omega arith;
    length_high = omega (arith, laws.size_high);
    alphabet_low = laws.size_low;
    alphabet_high = laws.size_high;
    overlap_high = omega arith;
    symbol_below = λ u i x y. below u i (cases_lt i f.size) y;
    overlap_holds = λ u v x y ne.
        let all = extended_few k u v x y ne in
        omega (arith, ap (agreements ((doubly_extended f (suc k)).symbol u) ((doubly_extended f (suc k)).symbol v)) (add-one f.size));
  }
    where
      below : (u i : ℕ) → (i < f.size) ⊎ (f.size ≤ i) → i < f.size + 1 → (doubly_extended f (suc k)).symbol u i < f.size
      below u i (inl h) y =
          subst (λ (s : ℕ). s < f.size) (sym (element_symbol (suc k) u i h))
          (value_below f laws (digits f.size (suc k) u) (digits_below f.size some (suc k) u) i h)
      below u i (inr h) y =
          let last : f.size ≡ i = omega arith in
          subst (λ (j : ℕ). (doubly_extended f (suc k)).symbol u j < f.size) last
          (subst (λ (s : ℕ). s < f.size) (sym (top_symbol k u)) (mod-lt _ some))
