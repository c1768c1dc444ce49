-- How many terms there are below a degree, one degree after another, and the least degree that has more than n.
-- Assumes nothing.
use Rattle.std.proofs.Common.{◌≡◌, ℕ, zero, suc, ◌+◌, ◌-◌, ◌*◌, ◌/◌, ◌<◌, ◌≤◌, min, Bool, true, false, cond, eqb, ltb, List, Some, None, sum_by, sym, refl, ap, ◌∙◌, subst, ⊎_elim, mul-le-mul_right, mul_comm, div-le_self, add-one, arith, below_more}
use Rattle.std.specs.List.{range_with_len}
use Rattle.std.proofs.lemmas.Nat.{div_below, le-div}
use Rattle.std.proofs.lemmas.List.FromFn.{sum_by-map-range_with_len_more}
use Rattle.std.proofs.lemmas.List.{map-id}
use Rattle.std.proofs.lemmas.Bool.{cases_lt, ltb-true, ltb-false, lt-ltb, cases_order, cond-false, ne_eqb}
use Rattle.field.specs.Meaning.{first_from}
use Rattle.field.specs.Reciprocal.{first_passes}
use Rattle.bivariate.specs.Terms.{term_count, degree_bound, LeastBound}

-- ---- sums over the numbers below k

-- the terms of the first k powers of y
abbrev pub first_terms : ℕ → ℕ → ℕ → ℕ
first_terms a d k = sum_by (λ j. d - a * j) (range_with_len 0 k)

sum_more : (f : ℕ → ℕ) (k : ℕ) → sum_by f (range_with_len 0 (suc k)) ≡ sum_by f (range_with_len 0 k) + f k
sum_more f k =
    ap (λ (n : ℕ). sum_by f (range_with_len 0 n)) (sym (add-one k))
    ∙ ap (sum_by f) (sym (map-id (range_with_len 0 (k + 1))))
    ∙ sum_by-map-range_with_len_more f (λ x. x) 0 k k (omega arith)
    ∙ ap (λ (l : List ℕ). sum_by f l + f k) (map-id (range_with_len 0 k))

pub first_terms_more : (a d k : ℕ) → first_terms a d (suc k) ≡ first_terms a d k + (d - a * k)
first_terms_more a d k = sum_more (λ j. d - a * j) k

-- a·k ≤ d exactly if k ≤ d / a
pub quotient_low : (a d k : ℕ) → 1 ≤ a → a * k ≤ d → k ≤ d / a
quotient_low a d k p h = le-div k d a p (omega (arith, mul_comm a k))

pub quotient_high : (a d k : ℕ) → 1 ≤ a → d < a * k → d / a < k
quotient_high a d k p h = div_below d a k p (omega (arith, mul_comm a k))

-- one more x in each power of y up to d / a
grown : (a d k : ℕ) → 1 ≤ a → first_terms a (suc d) k ≡ first_terms a d k + min k (d / a + 1)
grown a d zero p = omega arith
grown a d (suc k) p =
    ⊎_elim
    (λ (h : d < a * k). let q = quotient_high a d k p h in
    omega (arith, first_terms_more a d k, first_terms_more a (suc d) k, grown a d k p))
    (λ (h : a * k ≤ d). let q = quotient_low a d k p h in
    omega (arith, first_terms_more a d k, first_terms_more a (suc d) k, grown a d k p))
    (cases_lt d (a * k))

self_multiple : (a d : ℕ) → 1 ≤ a → d ≤ a * d
self_multiple a d p = omega (arith, mul-le-mul_right d p)

pub term_count_more : (a d : ℕ) → 1 ≤ a → term_count a (suc d) ≡ term_count a d + (d / a + 1)
term_count_more a d p =
    omega (arith, grown a d (suc d) p, first_terms_more a d d, self_multiple a d p, div-le_self d a)

pub term_count_low : (a d : ℕ) → 1 ≤ a → d ≤ term_count a d
term_count_low a zero p = omega arith
term_count_low a (suc d) p = omega (arith, term_count_low a d p, term_count_more a d p)

-- ---- the first number that passes a test

first_least : (test : ℕ → Bool) (n i e : ℕ) → i ≤ e → e < first_from test i n → test e ≡ false
first_least test zero i e l h = absurd (omega arith)
first_least test (suc n) i e l h = by (test i) refl h (λ k. first_least test n (suc i) e k)
  where
    by : (b : Bool) → test i ≡ b → e < cond b i (first_from test (suc i) n) → (suc i ≤ e → e < first_from test (suc i) n → test e ≡ false) → test e ≡ false
    by true t h later = absurd (omega arith)
    by false t h later =
        ⊎_elim (λ (s : i < e). later s h) (λ (s : e ≤ i). let same : i ≡ e = omega arith in subst (λ (j : ℕ). test j ≡ false) same t) (cases_lt i e)

-- ---- the least degree

pub degree_bound_least : (a n : ℕ) → 1 ≤ a → LeastBound a n (degree_bound a n)
degree_bound_least a n p =
    record {
      exceeds = ltb-true n (term_count a (degree_bound a n))
          (first_passes (λ d. ltb n (term_count a d)) (n + 2) 0 (n + 1) (omega arith)
          (lt-ltb n (term_count a (0 + (n + 1))) (omega (arith, term_count_low a (0 + (n + 1)) p))));
      least = λ e h. ltb-false n (term_count a e) (first_least (λ d. ltb n (term_count a d)) (n + 2) 0 e (omega arith) h);
    }

pub least_bound_only : (a n d e : ℕ) → LeastBound a n d → LeastBound a n e → d ≡ e
least_bound_only a n d e h k =
    ⊎_elim (λ s. s)
    (⊎_elim (λ (s : d < e). absurd (omega (arith, k.least d s, h.exceeds)))
    (λ (s : e < d). absurd (omega (arith, h.least e s, k.exceeds))))
    (cases_order d e)

pub least_bound_is : (a n d : ℕ) → 1 ≤ a → LeastBound a n d → d ≡ degree_bound a n
least_bound_is a n d p h = least_bound_only a n d (degree_bound a n) h (degree_bound_least a n p)

module _ (a n : ℕ) (p : 1 ≤ a) where
  pub degree_bound_low : 1 ≤ degree_bound a n
  degree_bound_low =
      ⊎_elim (λ (s : 0 < degree_bound a n). s)
      (λ (s : degree_bound a n ≤ 0). let none : degree_bound a n ≡ 0 = omega arith in
      absurd (omega (arith, subst (λ (d : ℕ). n < term_count a d) none (degree_bound_least a n p).exceeds)))
      (cases_lt 0 (degree_bound a n))

  pub least_bound_high : (d : ℕ) → ((e : ℕ) → e < d → term_count a e ≤ n) → d ≤ n + 1
  least_bound_high zero h = omega arith
  least_bound_high (suc d) h = omega (arith, h d (omega arith), term_count_low a d p)

  pub degree_bound_high : degree_bound a n ≤ n + 1
  degree_bound_high = least_bound_high (degree_bound a n) (degree_bound_least a n p).least

-- ---- one turn of a search for it

module _ (a n d count : ℕ) (p : ¬ (a ≡ 0)) (is : count ≡ term_count a d) (least : (e : ℕ) → e < d → term_count a e ≤ n) where
  pub passed_high : d ≤ n + 1
  passed_high = least_bound_high a n (omega arith) d least

  pub counted_high : d / a ≤ n + 1
  counted_high = omega (arith, passed_high, div-le_self d a)

  pub count_more : count + (d / a + 1) ≡ term_count a (d + 1)
  count_more = omega (arith, term_count_more a d (omega arith), ap (term_count a) (add-one d))

  pub passed_more : count ≤ n → (e : ℕ) → e < d + 1 → term_count a e ≤ n
  passed_more h = below_more (λ e. term_count a e ≤ n) d least (omega arith)

  pub passed_least : n < count → LeastBound a n d
  passed_least h = record { exceeds = omega arith; least = least }

  pub passed_is : n < count → Some d ≡ cond (eqb a 0) None (Some (degree_bound a n))
  passed_is h = ap Some (least_bound_is a n d (omega arith) (passed_least h)) ∙ sym (cond-false _ _ _ (ne_eqb a 0 p))
