-- The first vector that fails an equation clears those behind it and dies: what is left is a staircase that solves it.
-- Assumes nothing.
use Rattle.std.proofs.Common.{◌≡◌, ℕ, suc, ◌+◌, ◌*◌, ◌<◌, ◌≤◌, List, length, get_or, set, sym, ap, ◌∙◌, subst, ⊎_elim, arith}
use Rattle.std.proofs.lemmas.List.{get_or-set_same, get_or-set_other, length-set}
use Rattle.std.proofs.ByRecursion.{All-set, All-get_or}
use Rattle.std.proofs.lemmas.Bool.{cases_order, cases_eq}
use Rattle.field.specs.Meaning.{FieldMeaning, FieldLaws}
use Rattle.bivariate.specs.Bivariate.{Elements}
use Rattle.interpolation.specs.Staircase.{dot, plus, vector, entry, Alive, alive_count, Staircase, Solves}
use Rattle.interpolation.specs.Clearing.{factor, cleared}
use Rattle.interpolation.proofs.VectorSums.{zero-element, dot-element, dot-plus, dot-plus-zero, cleared-zero, add_nothing, get_or-plus}
use Rattle.interpolation.proofs.Places.{place_row, place_below, vector-length, vector-entry, vector_is, vector-elements}
use Rattle.interpolation.proofs.AliveCount.{count_less}
use Rattle.interpolation.proofs.ClearedVectors.{Clearing, factor-element, cleared_alive, cleared_dead, clearing_elements}

-- vectors of which p is made to die
abbrev pub killed : ℕ → ℕ → List ℕ → List ℕ
killed w p vs = set vs (p * w + p) 0

module _ (m : FieldMeaning) (laws : FieldLaws m) (w p : ℕ) (e old vs : List ℕ) (stair : Staircase m w old) (he : Elements m e)
    (hp : p < w) (alive : Alive w old p) (long : length vs ≡ length old) (h : Clearing m w p e old w vs) where
  was_elements : (t : ℕ) → Elements m (vector w old t)
  was_elements t = vector-elements w old stair.sized m t stair.elements

  was_length : (t : ℕ) → t < w → length (vector w old t) ≡ w
  was_length t ht = vector-length w old stair.sized t ht

  same_length : (t : ℕ) → t < w → length (vector w old t) ≡ length (vector w old p)
  same_length t ht = was_length t ht ∙ sym (was_length p hp)

  a_factor : (t : ℕ) → factor m e (vector w old p) (vector w old t) < m.size
  a_factor t = factor-element m laws e he (vector w old p) (vector w old t) (was_elements p) (was_elements t)

  new_sized : length (killed w p vs) ≡ w * w
  new_sized = length-set vs (p * w + p) 0 ∙ long ∙ stair.sized

  dead : entry w (killed w p vs) p p ≡ 0
  dead = get_or-set_same vs (p * w + p) 0 0 (place_below w vs (long ∙ stair.sized) p p hp hp)

  others : (t : ℕ) → t < w → ¬ (t ≡ p) → vector w (killed w p vs) t ≡ vector w vs t
  others t ht n =
      vector_is w (killed w p vs) new_sized t ht (vector w vs t) (vector-length w vs (long ∙ stair.sized) t ht)
      (λ s hs. get_or-set_other vs (p * w + p) (t * w + s) 0 0 (λ q. n (place_row w t s p p hs hp q)) ∙ sym (vector-entry w vs t s hs))

  low : (t : ℕ) → t < w → t < p → vector w (killed w p vs) t ≡ vector w old t
  low t ht l = others t ht (λ q. omega arith) ∙ h.0 t ht (omega arith)

  high : (t : ℕ) → t < w → p < t → vector w (killed w p vs) t ≡ cleared m e (vector w old p) t (vector w old t)
  high t ht l = others t ht (λ q. omega arith) ∙ h.2 t ht l ht

  -- ---- the number at a vector's own place

  plus_own : (t s : ℕ) → t < w → s < w → p < s
      → get_or (plus m (vector w old t) (factor m e (vector w old p) (vector w old t)) (vector w old p)) s 0 ≡ get_or (vector w old t) s 0
  plus_own t s ht hs l =
      let c : ℕ = factor m e (vector w old p) (vector w old t) in
      let x : ℕ = get_or (vector w old t) s 0 in
      let hx : x < m.size = All-get_or (λ y. y < m.size) (vector w old t) s 0 (omega (arith, was_length t ht)) (was_elements t) in
      let z : get_or (vector w old p) s 0 ≡ 0 = vector-entry w old p s hs ∙ stair.after p s l hs alive in
      get_or-plus m laws c (a_factor t) (vector w old t) (vector w old p) s (omega (arith, was_length t ht)) (omega (arith, was_length p hp))
      ∙ ap (λ (y : ℕ). m.sum x (m.product c y)) z ∙ add_nothing m laws x c hx (a_factor t)

  cleared_own : (t : ℕ) → t < w → p < t → get_or (cleared m e (vector w old p) t (vector w old t)) t 0 ≡ get_or (vector w old t) t 0
  cleared_own t ht l =
      ⊎_elim (λ z. ap (λ (v : List ℕ). get_or v t 0) (cleared_dead m e (vector w old p) t (vector w old t) z))
      (λ n. ap (λ (v : List ℕ). get_or v t 0) (cleared_alive m e (vector w old p) t (vector w old t) n) ∙ plus_own t t ht ht l)
      (cases_eq (get_or (vector w old t) t 0) 0)

  own_kept : (t : ℕ) → t < w → ¬ (t ≡ p) → entry w (killed w p vs) t t ≡ entry w old t t
  own_kept t ht n =
      sym (vector-entry w (killed w p vs) t t ht)
      ∙ ⊎_elim (λ q. absurd (n q))
      (⊎_elim (λ l. ap (λ (v : List ℕ). get_or v t 0) (low t ht l)) (λ l. ap (λ (v : List ℕ). get_or v t 0) (high t ht l) ∙ cleared_own t ht l))
      (cases_order t p)
      ∙ vector-entry w old t t ht

  -- ---- the vectors that are alive

  not_p : (t : ℕ) → Alive w (killed w p vs) t → ¬ (t ≡ p)
  not_p t a q = a (subst (λ (n : ℕ). entry w (killed w p vs) n n ≡ 0) (sym q) dead)

  was_alive : (t : ℕ) → t < w → Alive w (killed w p vs) t → Alive w old t
  was_alive t ht a z = a (own_kept t ht (not_p t a) ∙ z)

  by-vector : (P : List ℕ → Type 0) (t : ℕ) → t < w → Alive w (killed w p vs) t → (t < p → Alive w old t → P (vector w old t))
      → (p < t → Alive w old t → P (plus m (vector w old t) (factor m e (vector w old p) (vector w old t)) (vector w old p)))
      → P (vector w (killed w p vs) t)
  by-vector P t ht a f g =
      ⊎_elim (λ q. absurd (not_p t a q))
      (⊎_elim (λ l. subst P (sym (low t ht l)) (f l (was_alive t ht a)))
      (λ l. subst P
      (sym (high t ht l ∙ cleared_alive m e (vector w old p) t (vector w old t) (λ z. was_alive t ht a (sym (vector-entry w old t t ht) ∙ z))))
      (g l (was_alive t ht a))))
      (cases_order t p)

  pub imposed_staircase : Staircase m w (killed w p vs)
  imposed_staircase =
      record {
        sized = new_sized;
        elements = All-set (λ x. x < m.size) vs (p * w + p) 0 (zero-element m laws)
            (clearing_elements m laws e he w p old stair.sized stair.elements w vs long h);
        own = λ t ht a. own_kept t ht (not_p t a) ∙ stair.own t ht (was_alive t ht a);
        after = λ t s l hs a.
            let ht : t < w = omega arith in
            sym (vector-entry w (killed w p vs) t s hs)
            ∙ by-vector (λ v. get_or v s 0 ≡ 0) t ht a
            (λ k b. vector-entry w old t s hs ∙ stair.after t s l hs b)
            (λ k b. plus_own t s ht hs (omega arith) ∙ vector-entry w old t s hs ∙ stair.after t s l hs b);
      }

  pub imposed_solves : ¬ (dot m e (vector w old p) ≡ 0) → ((t : ℕ) → t < p → Alive w old t → dot m e (vector w old t) ≡ 0)
      → Solves m w (killed w p vs) e
  imposed_solves fails before t ht a =
      by-vector (λ v. dot m e v ≡ 0) t ht a (before t)
      (λ l b. dot-plus m laws (factor m e (vector w old p) (vector w old t)) (a_factor t) e (vector w old t) (vector w old p) he (was_elements t) (was_elements p) (same_length t ht)
      ∙ cleared-zero m laws (dot m e (vector w old t)) (dot m e (vector w old p)) (dot-element m laws e (vector w old t) he (was_elements t))
      (dot-element m laws e (vector w old p) he (was_elements p)) fails)

  pub imposed_keeps : (d : List ℕ) → Elements m d → Solves m w old d → Solves m w (killed w p vs) d
  imposed_keeps d hd solves t ht a =
      by-vector (λ v. dot m d v ≡ 0) t ht a (λ l b. solves t ht b)
      (λ l b. dot-plus-zero m laws (factor m e (vector w old p) (vector w old t)) (a_factor t) d (vector w old t) (vector w old p) hd (was_elements t) (was_elements p)
      (same_length t ht) (solves t ht b) (solves p hp alive))

  pub imposed_count : alive_count w old w ≤ suc (alive_count w (killed w p vs) w)
  imposed_count = count_less w old (killed w p vs) p w own_kept
