-- Where the numbers of a vector stand, and what follows of the whole from its vectors.
-- Assumes nothing.
use Rattle.std.proofs.Common.{◌≡◌, ℕ, zero, suc, ◌+◌, ◌-◌, ◌*◌, ◌/◌, ◌%◌, ◌<◌, ◌≤◌, List, length, get_or, take, drop, ◌++◌, Some, Bor, sym, ap, ◌∙◌, subst, ⊎_elim, mod-lt, suc-mul, mul-le-mul_right, add-one, arith}
use Rattle.std.proofs.lemmas.List.{ext_get_or, length-take, length-drop, get_or-take, get_or-drop, length-append, length-take-le, drop-take, take-take, get_or_append_left, get_or-append_right, take_at, drop_at, drop-drop}
use Rattle.std.proofs.ByRecursion.{All-get_or, All-from_get_or, All-take, All-drop}
use Rattle.std.proofs.lemmas.Nat.{mul-add-lt, div-mul-add, mod-mul-add, div_below, div-add-mod'}
use Rattle.std.specs.declared.iter.Enumerate.{Enumerate}
use Rattle.std.specs.declared.slice.Chunks.{Chunks}
use Rattle.std.specs.Iterator.Adapters.{enumerate_source, enumerate_count, enumerate_steps}
use Rattle.std.specs.Slice.Iter.{chunks_rest, chunks_size, chunks_steps}
use Rattle.std.proofs.lemmas.Bool.{cases_lt}
use Rattle.field.specs.Meaning.{FieldMeaning}
use Rattle.bivariate.specs.Bivariate.{Elements}
use Rattle.interpolation.specs.Staircase.{vector, entry}

-- two places are one only if they are the same number of the same vector
pub place_row : (w a s b r : ℕ) → s < w → r < w → a * w + s ≡ b * w + r → a ≡ b
place_row w a s b r hs hr e = sym (div-mul-add a w s hs) ∙ ap (λ (n : ℕ). n / w) e ∙ div-mul-add b w r hr

pub place_column : (w a s b r : ℕ) → s < w → r < w → a * w + s ≡ b * w + r → s ≡ r
place_column w a s b r hs hr e = sym (mod-mul-add a w s hs) ∙ ap (λ (n : ℕ). n % w) e ∙ mod-mul-add b w r hr

-- number s of vector t, whatever the length
pub vector-entry : (w : ℕ) (vs : List ℕ) (t s : ℕ) → s < w → get_or (vector w vs t) s 0 ≡ entry w vs t s
vector-entry w vs t s hs = get_or-take w (drop (t * w) vs) s 0 hs ∙ get_or-drop (t * w) vs s 0

some_width : (w i : ℕ) → i < w * w → 0 < w
some_width zero i h = absurd (omega arith)
some_width (suc w) i h = omega arith

module _ (w : ℕ) (vs : List ℕ) (sized : length vs ≡ w * w) where
  pub place_below : (t s : ℕ) → t < w → s < w → t * w + s < length vs
  place_below t s ht hs = omega (arith, mul-add-lt t w s w ht hs)

  pub vector-within : (t : ℕ) → t < w → t * w + w ≤ length vs
  vector-within t ht = omega (arith, mul-add-lt t w (w - 1) w ht (omega arith))

  pub vector-length : (t : ℕ) → t < w → length (vector w vs t) ≡ w
  vector-length t ht =
      let fits : t * w + w ≤ length vs = vector-within t ht in
      simp (length-take, length-drop) (omega arith)

  pub vector-elements : (m : FieldMeaning) (t : ℕ) → Elements m vs → Elements m (vector w vs t)
  vector-elements m t h = All-take (λ c. c < m.size) w (drop (t * w) vs) (All-drop (λ c. c < m.size) (t * w) vs h)

  -- the same of a slice that is a vector
  pub part_elements : (m : FieldMeaning) (t : ℕ) (v : List ℕ) → v ≡ vector w vs t → Elements m vs → Elements m v
  part_elements m t v is h = subst (Elements m) (sym is) (vector-elements m t h)

  pub part_length : (t : ℕ) (v : List ℕ) → v ≡ vector w vs t → t < w → length v ≡ w
  part_length t v is ht = ap length is ∙ vector-length t ht

  pub elements-by_vectors : (m : FieldMeaning) → ((t : ℕ) → t < w → Elements m (vector w vs t)) → Elements m vs
  elements-by_vectors m h = All-from_get_or (λ c. c < m.size) vs 0 each
    where
      each : (i : ℕ) → i < length vs → get_or vs i 0 < m.size
      each i hi =
          let pos : 0 < w = some_width w i (omega arith) in
          let row : i / w < w = div_below i w w pos (omega arith) in
          let column : i % w < w = mod-lt i pos in
          let place : i / w * w + i % w ≡ i = div-add-mod' i w in
          subst (λ (x : ℕ). x < m.size) (vector-entry w vs (i / w) (i % w) column ∙ ap (λ (n : ℕ). get_or vs n 0) place)
          (All-get_or (λ c. c < m.size) (vector w vs (i / w)) (i % w) 0 (omega (arith, vector-length (i / w) row)) (h (i / w) row))

-- a vector is known by its numbers
pub vector_is : (w : ℕ) (vs : List ℕ) → length vs ≡ w * w → (t : ℕ) → t < w → (v : List ℕ) → length v ≡ w
    → ((s : ℕ) → s < w → entry w vs t s ≡ get_or v s 0) → vector w vs t ≡ v
vector_is w vs sized t ht v l h =
    let lv : length (vector w vs t) ≡ w = vector-length w vs sized t ht in
    ext_get_or 0 (vector w vs t) v (lv ∙ sym l)
    (λ s hs. let k : s < w = omega arith in vector-entry w vs t s k ∙ h s k)

-- ---- the vectors from t on apart, and another vector in the place of vector t

module _ (w : ℕ) (vs : List ℕ) (sized : length vs ≡ w * w) (t : ℕ) (ht : t < w) (front back : List ℕ)
    (before : front ≡ take (t * w) vs) (after : back ≡ drop (t * w) vs) where
  front_length : length front ≡ t * w
  front_length = ap length before ∙ length-take-le (t * w) vs (omega (arith, vector-within w vs sized t ht))

  pub front-vector : (p : ℕ) → p < t → take w (drop (p * w) front) ≡ vector w vs p
  front-vector p hp =
      let fits : suc p * w ≤ t * w = mul-le-mul_right w hp in
      let parts : t * w ≡ p * w + (t * w - p * w) = omega (arith, suc-mul p w) in
      ap (λ (l : List ℕ). take w (drop (p * w) l)) (before ∙ ap (λ (n : ℕ). take n vs) parts)
      ∙ ap (take w) (drop-take (p * w) (t * w - p * w) vs) ∙ take-take w (t * w - p * w) (drop (p * w) vs) (omega (arith, suc-mul p w))

  module _ (new put : List ℕ) (long : length new ≡ w) (is : put ≡ front ++ (new ++ drop w back)) where
    pub put_same : vector w put t ≡ new
    put_same =
        ap (λ (l : List ℕ). vector w l t) is ∙ ap (take w) (drop_at front (new ++ drop w back) (t * w) front_length)
        ∙ take_at new (drop w back) w long

    put_length : length put ≡ w * w
    put_length =
        omega (
          arith,
          ap length is,
          length-append front (new ++ drop w back),
          length-append new (drop w back),
          length-drop w back,
          ap length after,
          length-drop (t * w) vs,
          front_length,
          vector-within w vs sized t ht,
        )

    pub put_other : (s : ℕ) → s < w → ¬ (s ≡ t) → vector w put s ≡ vector w vs s
    put_other s hs n =
        vector_is w put put_length s hs (vector w vs s) (vector-length w vs sized s hs)
        (λ k hk. ap (λ (l : List ℕ). get_or l (s * w + k) 0) is ∙ apart k hk ∙ sym (vector-entry w vs s k hk))
      where
        apart : (k : ℕ) → k < w → get_or (front ++ (new ++ drop w back)) (s * w + k) 0 ≡ get_or vs (s * w + k) 0
        apart k hk =
            ⊎_elim
            (λ (l : s < t).
            let low : s * w + k < t * w = omega (arith, mul-le-mul_right w l, suc-mul s w) in
            get_or_append_left front (new ++ drop w back) 0 (s * w + k) (omega (arith, front_length))
            ∙ ap (λ (l : List ℕ). get_or l (s * w + k) 0) before ∙ get_or-take (t * w) vs (s * w + k) 0 low)
            (λ (l : t ≤ s).
            let above : suc t ≤ s = omega (arith, n) in
            let high : t * w + w ≤ s * w + k = omega (arith, mul-le-mul_right w above, suc-mul t w) in
            let j : ℕ = s * w + k - t * w - w in
            let at : t * w + (w + j) ≡ s * w + k = omega arith in
            get_or-append_right front (new ++ drop w back) (t * w) (s * w + k) 0 front_length (omega arith)
            ∙ get_or-append_right new (drop w back) w (s * w + k - t * w) 0 long (omega arith)
            ∙ get_or-drop w back j 0 ∙ ap (λ (l : List ℕ). get_or l (w + j) 0) after ∙ get_or-drop (t * w) vs (w + j) 0
            ∙ ap (λ (i : ℕ). get_or vs i 0) at)
            (cases_lt s t)

-- ---- a loop over all vectors

-- the vectors that are still to come
pub record Ahead (w : ℕ) (vs : List ℕ) (s : Enumerate (Chunks ℕ)) : Type 0 where
  pub within : enumerate_count s ≤ w
  pub wide : chunks_size (enumerate_source s) ≡ w
  pub behind : chunks_rest (enumerate_source s) ≡ drop (enumerate_count s * w) vs

-- v is vector number t, and those behind it come next
pub record Turn (w : ℕ) (vs : List ℕ) (t : ℕ) (v : List ℕ) (s : Enumerate (Chunks ℕ)) : Type 0 where
  pub within : t < w
  pub long : length v ≡ w
  pub is : v ≡ vector w vs t
  pub own : get_or v t 0 ≡ entry w vs t t
  pub next : enumerate_count s ≡ t + 1
  pub ahead : Ahead w vs s

module _ (w : ℕ) (vs : List ℕ) (sized : length vs ≡ w * w) (s : Enumerate (Chunks ℕ)) (ahead : Ahead w vs s) where
  ahead_length : length (chunks_rest (enumerate_source s)) ≡ w * w - enumerate_count s * w
  ahead_length =
      ap length ahead.behind ∙ length-drop (enumerate_count s * w) vs ∙ ap (λ (n : ℕ). n - enumerate_count s * w) sized

  pub ahead_turn : (t : ℕ) (v : Bor (List ℕ)) (s' : Enumerate (Chunks ℕ)) → enumerate_steps chunks_steps s (Some (t, v)) s' → Turn w vs t v.now s'
  ahead_turn t v s' steps =
      let k : ℕ = enumerate_count s in
      let rest : List ℕ = chunks_rest (enumerate_source s) in
      let left : List ℕ = chunks_rest (enumerate_source s') in
      let some : 0 < length rest = steps.0.1.2 in
      let inside : k < w = ⊎_elim (λ (l : k < w). l) (λ (l : w ≤ k). absurd (omega (arith, ahead_length, mul-le-mul_right w l))) (cases_lt k w) in
      let long : length v.now ≡ w = omega (arith, steps.0.1.1, ahead.wide, ahead_length, vector-within w vs sized k inside) in
      let part : v.now ≡ vector w vs k = sym (take_at v.now left w long) ∙ ap (take w) (sym steps.0.1.0 ∙ ahead.behind) in
      let is : v.now ≡ vector w vs t = part ∙ ap (vector w vs) (sym steps.1) in
      let after : k * w + w ≡ enumerate_count s' * w = omega (arith, suc-mul k w, ap (λ (n : ℕ). n * w) (steps.2 ∙ add-one k)) in
      record {
        within = omega (arith, steps.1);
        long = long;
        is = is;
        own = ap (λ (l : List ℕ). get_or l t 0) is ∙ vector-entry w vs t t (omega (arith, steps.1));
        next = omega (arith, steps.1, steps.2);
        ahead = record {
          within = omega (arith, steps.2);
          wide = steps.0.0 ∙ ahead.wide;
          behind =
              sym (drop_at v.now left w long) ∙ ap (drop w) (sym steps.0.1.0 ∙ ahead.behind) ∙ drop-drop w (k * w) vs ∙ ap (λ (n : ℕ). drop n vs) after;
        };
      }
