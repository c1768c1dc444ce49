-- The laws of a concatenation, from those of its parts.
-- Assumes nothing.
use Rattle.std.specs.Prelude.{◌≡◌, ℕ, zero, suc, ◌+◌, ◌*◌, ◌/◌, ◌%◌, ◌<◌, ◌≤◌, Bool, true, false, cond, Some, None, Option, ◌==◌, nat_eq, refl}
use Rattle.std.proofs.Common.{sym, ap, ap₂, ◌∙◌, ⊎_elim, zero-le, mod-lt, mul-pos, zero-mul, one-mul, suc-mul, add-mul, mul-le-mul_right, arith}
use Rattle.std.proofs.Math.Nat.{le-min}
use Rattle.std.proofs.lemmas.Bool.{cases_lt, eqb-false}
use Rattle.std.proofs.lemmas.Nat.{div_below, le-div, div-mul-add, mod-mul-add}
use Rattle.field.specs.Polynomial.{agreements}
use Rattle.code.specs.Meaning.{CodeMeaning, CodeLaws, symbol_at}
use Rattle.code.specs.Concatenation.{concatenated}
use Rattle.code.specs.Counting.{agreements_le, agreements_same, agreements_split}
use Rattle.code.specs.Symbols.{symbol_some, symbol_in, symbol_no_user, symbol_no_position}

module _ (o i : CodeMeaning) (lo : CodeLaws o) (li : CodeLaws i) (covered : o.alphabet ≤ i.users) where
  some : 0 < i.length
  some = omega (arith, li.length_low)

  -- in block b a table is that of an inner user
  in_block : (w b k : ℕ) → k < i.length → (concatenated o i).symbol w (b * i.length + k) ≡ i.symbol (o.symbol w b) k
  in_block w b k h =
      ap (λ (x : ℕ). i.symbol (o.symbol w x) ((b * i.length + k) % i.length)) (div-mul-add b i.length k h)
      ∙ ap (i.symbol (o.symbol w b)) (mod-mul-add b i.length k h)

  module _ (u v : ℕ) (hu : u < o.users) (hv : v < o.users) where
    block_few : (b : ℕ) → b < o.length → (t : Bool) → (o.symbol u b == o.symbol v b) ≡ t
        → agreements (i.symbol (o.symbol u b)) (i.symbol (o.symbol v b)) i.length ≤ cond t 1 0 * i.length + i.overlap
    block_few b h true e = omega (arith, agreements_le (i.symbol (o.symbol u b)) (i.symbol (o.symbol v b)) i.length, one-mul i.length)
    block_few b h false e =
        omega (
          arith,
          zero-mul i.length,
          li.overlap_holds (o.symbol u b) (o.symbol v b) (omega (arith, lo.symbol_below u b hu h)) (omega (arith, lo.symbol_below v b hv h))
              (eqb-false _ _ e),
        )

    -- a block of equal outer symbols counts whole, and each block adds at most the inner overlap
    blocks_few : (b : ℕ) → b ≤ o.length
        → agreements ((concatenated o i).symbol u) ((concatenated o i).symbol v) (b * i.length)
        ≤ agreements (o.symbol u) (o.symbol v) b * i.length + b * i.overlap
    blocks_few zero h = rw (zero-mul i.length) zero-le
    blocks_few (suc b) h =
        let F = (concatenated o i).symbol u in
        let G = (concatenated o i).symbol v in
        let n = i.length in
        let t = nat_eq (o.symbol u b) (o.symbol v b) in
        let split : agreements F G (suc b * n) ≡ agreements F G (b * n) + agreements (i.symbol (o.symbol u b)) (i.symbol (o.symbol v b)) n =
        ap (agreements F G) (suc-mul b n) ∙ agreements_split F G (b * n) n
        ∙ ap (λ (x : ℕ). agreements F G (b * n) + x)
        (agreements_same _ _ (i.symbol (o.symbol u b)) (i.symbol (o.symbol v b)) n (in_block u b) (in_block v b)) in
        omega (
          arith,
          split,
          blocks_few b (omega arith),
          block_few b (omega arith) t refl,
          add-mul (agreements (o.symbol u) (o.symbol v) b) (cond t 1 0) n,
          suc-mul b i.overlap,
        )

    concatenated_few : ¬ (u ≡ v) → agreements ((concatenated o i).symbol u) ((concatenated o i).symbol v) (o.length * i.length) ≤ (concatenated o i).overlap
    concatenated_few ne =
        let outer = mul-le-mul_right i.length (lo.overlap_holds u v hu hv ne) in
        le-min (omega (arith, blocks_few o.length (omega arith), outer))
        (agreements_le ((concatenated o i).symbol u) ((concatenated o i).symbol v) (o.length * i.length))

  pub concatenated_laws : o.length * i.length ≤ 8192 → CodeLaws (concatenated o i)
  concatenated_laws short =
      let positive : 0 < o.length * i.length = mul-pos lo.length_low li.length_low in
      record {
        users_low = lo.users_low;
        users_high = lo.users_high;
        length_low = omega arith;
        length_high = short;
        alphabet_low = li.alphabet_low;
        alphabet_high = li.alphabet_high;
        overlap_high = omega arith;
        symbol_below = λ u p x y.
            let within : p / i.length < o.length = div_below p i.length o.length some y in
            li.symbol_below _ _ (omega (arith, lo.symbol_below u (p / i.length) x within)) (mod-lt p some);
        overlap_holds = λ u v x y ne. concatenated_few u v x y ne;
      }

  -- ---- what its parts answer when they are asked for the symbol of its user u at its position p

  module _ (u p block place : ℕ) (block-is : block ≡ p / i.length) (place_is : place ≡ p % i.length) where
    -- an outer symbol is an inner user, whose symbol it is
    pub outer_some : (s : ℕ) (r : Option ℕ) → Some s ≡ symbol_at o u block → r ≡ symbol_at i s place → r ≡ symbol_at (concatenated o i) u p
    outer_some s r h k =
        let found = symbol_some o u block s h in
        let user : s < i.users = omega (arith, lo.symbol_below u block found.0 found.1, covered) in
        let inside : p < o.length * i.length =
        ⊎_elim (λ h. h) (λ h. absurd (omega (arith, le-div o.length p i.length some h))) (cases_lt p (o.length * i.length)) in
        k ∙ symbol_in i s place user (omega (arith, mod-lt p some))
        ∙ ap₂ (λ (s j : ℕ). Some (i.symbol s j)) (found.2 ∙ ap (o.symbol u) block-is) place_is
        ∙ sym (symbol_in (concatenated o i) u p found.0 inside)

    -- without an outer symbol, the user or the position is out of range
    pub outer_none : None ≡ symbol_at o u block → None ≡ symbol_at (concatenated o i) u p
    outer_none h =
        ⊎_elim
        (λ x. ⊎_elim
        (λ y.
        let inside : block < o.length = omega (arith, div_below p i.length o.length some y) in
        let z : None ≡ Some (o.symbol u block) = h ∙ symbol_in o u block x inside in
        let no : ◌≡◌ {A = ℕ} 0 1 = cc in absurd (omega arith))
        (λ y. sym (symbol_no_position (concatenated o i) u p y))
        (cases_lt p (o.length * i.length)))
        (λ x. sym (symbol_no_user (concatenated o i) u p x))
        (cases_lt u o.users)
