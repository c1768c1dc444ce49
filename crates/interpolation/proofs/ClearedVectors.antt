-- The vectors behind vector p made to solve an equation, one after another.
-- Assumes nothing.
use Rattle.std.proofs.Common.{◌≡◌, ℕ, ◌+◌, ◌*◌, ◌<◌, ◌≤◌, eqb, List, length, get_or, take, drop, ◌++◌, sym, ap, ap₂, ◌∙◌, subst, ⊎_elim, arith}
use Rattle.std.proofs.lemmas.Bool.{cases_eq, cases_lt, eq-eqb, ne_eqb, cond-true, cond-false, cond_both}
use Rattle.field.specs.Meaning.{FieldMeaning, FieldLaws}
use Rattle.bivariate.specs.Bivariate.{Elements}
use Rattle.interpolation.specs.Staircase.{dot, plus, vector, entry, Alive}
use Rattle.interpolation.specs.Clearing.{factor, cleared}
use Rattle.interpolation.proofs.VectorSums.{dot-element, plus-elements}
use Rattle.interpolation.proofs.Places.{vector-entry, vector-elements, part_length, elements-by_vectors, front-vector, put_same, put_other}

-- those behind p and before t are cleared, and all others are as they were
abbrev pub Clearing : FieldMeaning → ℕ → ℕ → List ℕ → List ℕ → ℕ → List ℕ → Type 0
Clearing m w p e old t vs =
    ((s : ℕ) → s < w → s ≤ p → vector w vs s ≡ vector w old s)
    × ((s : ℕ) → s < w → t ≤ s → vector w vs s ≡ vector w old s)
    × ((s : ℕ) → s < w → p < s → s < t → vector w vs s ≡ cleared m e (vector w old p) s (vector w old s))

-- what clearing does to a vector that is alive, and to one that is not
pub cleared_alive : (m : FieldMeaning) (e q : List ℕ) (t : ℕ) (v : List ℕ) → ¬ (get_or v t 0 ≡ 0) → cleared m e q t v ≡ plus m v (factor m e q v) q
cleared_alive m e q t v n = cond-false (eqb (get_or v t 0) 0) v (plus m v (factor m e q v) q) (ne_eqb (get_or v t 0) 0 n)

pub cleared_dead : (m : FieldMeaning) (e q : List ℕ) (t : ℕ) (v : List ℕ) → get_or v t 0 ≡ 0 → cleared m e q t v ≡ v
cleared_dead m e q t v z = cond-true (eqb (get_or v t 0) 0) v (plus m v (factor m e q v) q) (eq-eqb (get_or v t 0) 0 z)

-- what the code reads of vector p: its slice v, what the equation says of it, and the inverse of that
module _ (m : FieldMeaning) (e q v : List ℕ) (value : ℕ) (part : v ≡ q) (says : value ≡ dot m e v) where
  value_is : value ≡ dot m e q
  value_is = says ∙ ap (dot m e) part

  pub inverse_is : (inverse : ℕ) → inverse ≡ m.inverse value → inverse ≡ m.inverse (dot m e q)
  inverse_is inverse i = i ∙ ap m.inverse value_is

pub inverse-element : (m : FieldMeaning) (laws : FieldLaws m) (value inverse : ℕ) → inverse ≡ m.inverse value → value < m.size → inverse < m.size
inverse-element m laws value inverse i h = subst (λ (x : ℕ). x < m.size) (sym i) (laws.inverse_closed value h)

pub negative-element : (m : FieldMeaning) (laws : FieldLaws m) (a b c : ℕ) → c ≡ m.negative (m.product a b) → a < m.size → b < m.size → c < m.size
negative-element m laws a b c i ha hb = subst (λ (x : ℕ). x < m.size) (sym i) (laws.negative_closed _ (laws.product_closed a b ha hb))

module _ (m : FieldMeaning) (laws : FieldLaws m) (e : List ℕ) (he : Elements m e) where
  pub factor-element : (q v : List ℕ) → Elements m q → Elements m v → factor m e q v < m.size
  factor-element q v hq hv =
      laws.negative_closed _ (laws.product_closed _ _ (dot-element m laws e v he hv) (laws.inverse_closed _ (dot-element m laws e q he hq)))

  cleared-elements : (q : List ℕ) (t : ℕ) (v : List ℕ) → Elements m q → Elements m v → Elements m (cleared m e q t v)
  cleared-elements q t v hq hv =
      cond_both (eqb (get_or v t 0) 0) v (plus m v (factor m e q v) q) (Elements m) (λ z. hv)
      (λ z. plus-elements m laws (factor m e q v) (factor-element q v hq hv) v q hv hq)

  module _ (w p : ℕ) (old : List ℕ) (sized : length old ≡ w * w) (elements : Elements m old) where
    -- elements stay elements
    pub clearing_elements : (t : ℕ) (vs : List ℕ) → length vs ≡ length old → Clearing m w p e old t vs → Elements m vs
    clearing_elements t vs long h = elements-by_vectors w vs (long ∙ sized) m each
      where
        was : (s : ℕ) → Elements m (vector w old s)
        was s = vector-elements w old sized m s elements

        same : (s : ℕ) → vector w vs s ≡ vector w old s → Elements m (vector w vs s)
        same s q = subst (Elements m) (sym q) (was s)

        each : (s : ℕ) → s < w → Elements m (vector w vs s)
        each s hs =
            ⊎_elim
            (λ l. ⊎_elim
            (λ k. subst (Elements m) (sym (h.2 s hs l k)) (cleared-elements (vector w old p) s (vector w old s) (was p) (was s)))
            (λ k. same s (h.1 s hs k)) (cases_lt s t))
            (λ l. same s (h.0 s hs l)) (cases_lt p s)

-- ---- one vector more

module _ (m : FieldMeaning) (w p : ℕ) (e old : List ℕ) (t : ℕ) (ht : t < w) (hp : p < t) (vs : List ℕ) (h : Clearing m w p e old t vs) where
  was_there : vector w vs t ≡ vector w old t
  was_there = h.1 t ht (omega arith)

  was_own : get_or (vector w old t) t 0 ≡ entry w vs t t
  was_own = ap (λ (v : List ℕ). get_or v t 0) (sym was_there) ∙ vector-entry w vs t t ht

  pub clearing_dead : entry w vs t t ≡ 0 → Clearing m w p e old (t + 1) vs
  clearing_dead z = (h.0, (λ s hs l. h.1 s hs (omega arith)), more)
    where
      more : (s : ℕ) → s < w → p < s → s < t + 1 → vector w vs s ≡ cleared m e (vector w old p) s (vector w old s)
      more s hs l k =
          ⊎_elim
          (λ q. subst (λ (n : ℕ). vector w vs n ≡ cleared m e (vector w old p) n (vector w old n)) (sym q)
          (was_there ∙ sym (cleared_dead m e (vector w old p) t (vector w old t) (was_own ∙ z))))
          (λ n. h.2 s hs l (let z : s < t = omega (arith, n) in z))
          (cases_eq s t)

  pub clearing_alive : Alive w vs t → (inverse : ℕ) → inverse ≡ m.inverse (dot m e (vector w old p)) → (new : List ℕ)
      → vector w new t ≡ plus m (vector w vs t) (m.negative (m.product (dot m e (vector w vs t)) inverse)) (vector w vs p)
      → ((s : ℕ) → s < w → ¬ (s ≡ t) → vector w new s ≡ vector w vs s)
      → Clearing m w p e old (t + 1) new
  clearing_alive a inverse i new changed others = (low, high, more)
    where
      low : (s : ℕ) → s < w → s ≤ p → vector w new s ≡ vector w old s
      low s hs l = others s hs (λ q. omega arith) ∙ h.0 s hs l

      high : (s : ℕ) → s < w → t + 1 ≤ s → vector w new s ≡ vector w old s
      high s hs l = others s hs (λ q. omega arith) ∙ h.1 s hs (omega arith)

      here : vector w new t ≡ cleared m e (vector w old p) t (vector w old t)
      here =
          changed
          ∙ ap (λ (v : List ℕ). plus m v (m.negative (m.product (dot m e v) inverse)) (vector w vs p)) was_there
          ∙ ap (λ (v : List ℕ). plus m (vector w old t) (m.negative (m.product (dot m e (vector w old t)) inverse)) v) (h.0 p (omega arith) (omega arith))
          ∙ ap (λ (n : ℕ). plus m (vector w old t) (m.negative (m.product (dot m e (vector w old t)) n)) (vector w old p)) i
          ∙ sym (cleared_alive m e (vector w old p) t (vector w old t) (λ z. a (sym was_own ∙ z)))

      more : (s : ℕ) → s < w → p < s → s < t + 1 → vector w new s ≡ cleared m e (vector w old p) s (vector w old s)
      more s hs l k =
          ⊎_elim
          (λ q. subst (λ (n : ℕ). vector w new n ≡ cleared m e (vector w old p) n (vector w old n)) (sym q) here)
          (λ n. others s hs n ∙ h.2 s hs l (let z : s < t = omega (arith, n) in z))
          (cases_eq s t)

  -- the same where the vectors from t on are apart, and vector t is written
  pub clearing_apart : Alive w vs t → (inverse : ℕ) → inverse ≡ m.inverse (dot m e (vector w old p)) → length vs ≡ w * w
      → (front back : List ℕ) → front ≡ take (t * w) vs → back ≡ drop (t * w) vs
      → (part other new : List ℕ) → part ≡ take w back → other ≡ take w (drop (p * w) front) → length new ≡ length part
      → new ≡ plus m part (m.negative (m.product (dot m e part) inverse)) other
      → (put : List ℕ) → put ≡ front ++ (new ++ drop w back) → Clearing m w p e old (t + 1) put
  clearing_apart a inverse i sized front back before after part other new own pivot same changed put is =
      let here : part ≡ vector w vs t = own ∙ ap (take w) after in
      let long : length new ≡ w = same ∙ part_length w vs sized t part here ht in
      let there : other ≡ vector w vs p = pivot ∙ front-vector w vs sized t ht front back before after p hp in
      clearing_alive a inverse i put
      (put_same w vs sized t ht front back before after new put long is ∙ changed
      ∙ ap₂ (λ (v q : List ℕ). plus m v (m.negative (m.product (dot m e v) inverse)) q) here there)
      (put_other w vs sized t ht front back before after new put long is)
