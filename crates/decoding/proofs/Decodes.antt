-- Where decoding does not refuse, neither interpolation nor the search does; and what is then found.
-- Assumes nothing.
use Rattle.std.proofs.Common.{◌≡◌, ℕ, suc, ◌+◌, ◌*◌, ◌<◌, ◌≤◌, false, not, leb, List, length, take, Some, None, Option, sym, ap, ◌∙◌, subst, mul-one, mul-add, arith}
use Rattle.std.proofs.lemmas.List.{take_all}
use Rattle.std.proofs.lemmas.Option.{none-some}
use Rattle.std.proofs.lemmas.Bool.{and_from, and_parts, not-false, leb-true, le-leb, ltb-false, le-ltb}
use Rattle.field.specs.Meaning.{FieldMeaning, FieldLaws}
use Rattle.bivariate.specs.Bivariate.{Elements, Zeros, Interpolates, points_from}
use Rattle.bivariate.specs.Terms.{term_count, degree_bound, most_y, polynomial}
use Rattle.bivariate.specs.Values.{elements_only}
use Rattle.bivariate.proofs.Coefficients.{polynomial_back, polynomial_each}
use Rattle.bivariate.proofs.Degrees.{degree_bound_least, degree_bound_low, degree_bound_high}
use Rattle.bivariate.proofs.ElementTests.{elements_from, elements_only_lem}
use Rattle.bivariate.proofs.ForcedRoots.{agreement_forces_root, word_places, word_points}
use Rattle.refusal.specs.Tables.{first_refusal}
use Rattle.refusal.specs.Tables.{within}
use Rattle.refusal.proofs.Rows.{no_row, no_refusal}
use Rattle.interpolation.specs.declared.fault.Fault.{Fault}
use Rattle.decoding.specs.Decoding.{RootsFound, found_bytes, memory_bytes, decoding_bytes, root_rows, decoding_rows, Decoded}
use Rattle.decoding.proofs.Inputs.{only_zeros_false}

-- ---- tests that were passed

passed_within : (low x high : ℕ) → low ≤ x → x ≤ high → not (within low x high) ≡ false
passed_within low x high l h = ap not (and_from _ _ (le-leb low x l) (le-leb x high h))

pub never_both : (e : Fault) (r : Option Fault) → r ≡ None → r ≡ Some e → ⊥
never_both e r p q = none-some e (sym p ∙ q)

pub record Accepted (m : FieldMeaning) (a : ℕ) (word : List ℕ) (r s : ℕ) : Type 0 where
  pub weight : 1 ≤ a
  pub light : a ≤ 255
  pub places : length word ≤ m.size
  pub room : found_bytes a (degree_bound a (length word)) ≤ r
  pub memory : decoding_bytes a (length word) ≤ s
  pub elements : Elements m word

pub accepted : (m : FieldMeaning) (a : ℕ) (word : List ℕ) (room memory : ℕ) → first_refusal (decoding_rows m a word room memory) ≡ None → Accepted m a word room memory
accepted m a word room memory h =
    let rows = no_row (decoding_rows m a word room memory) h in
    let range = and_parts (leb 1 a) (leb a 255) (not-false (within 1 a 255) rows.0) in
    record {
      weight = leb-true 1 a range.0;
      light = leb-true a 255 range.1;
      places = ltb-false m.size (length word) rows.1.0;
      room = ltb-false room (found_bytes a (degree_bound a (length word))) rows.1.1.0;
      memory = ltb-false memory (decoding_bytes a (length word)) rows.1.1.1.0;
      elements = elements_from m word (not-false (elements_only m word) rows.1.1.1.1.0);
    }

module _ (m : FieldMeaning) (laws : FieldLaws m) (a : ℕ) (word : List ℕ) (r s : ℕ) (ok : Accepted m a word r s) where
  -- the memory is there for the coefficients, the vectors and the stages
  pub parts_fit : (rest stages : ℕ) → rest + (length word + 1) ≡ s → stages + (length word + 1) * (length word + 1) ≡ rest → memory_bytes a (degree_bound a (length word)) ≤ stages
  parts_fit rest stages e f =
      let n : ℕ = length word in
      let two : n + 2 ≡ n + 1 + 1 = omega arith in
      let square : (n + 1) * (n + 2) ≡ (n + 1) * (n + 1) + (n + 1) =
      ap (λ (k : ℕ). (n + 1) * k) two ∙ mul-add (n + 1) (n + 1) 1 ∙ ap (λ (k : ℕ). (n + 1) * (n + 1) + k) (mul-one (n + 1)) in
      omega (arith, ok.memory, square)

  module _ (d : ℕ) (cs : List ℕ) (is : d ≡ degree_bound a (length word)) (sized : length cs ≡ length word + 1)
      (fits : Interpolates m a d (points_from 0 word) (polynomial a d (take (length word + 1) cs))) where
    interpolates : Interpolates m a d (points_from 0 word) (polynomial a d cs)
    interpolates =
        subst (λ (l : List ℕ). Interpolates m a d (points_from 0 word) (polynomial a d l)) (take_all (length word + 1) cs (omega arith)) fits

    low : 1 ≤ d
    low = subst (λ (e : ℕ). 1 ≤ e) (sym is) (degree_bound_low a (length word) ok.weight)

    high : d ≤ 257
    high = omega (arith, is, degree_bound_high a (length word) ok.weight, ok.places, laws.size_high)

    terms : length cs ≤ term_count a d
    terms =
        let more : length word < term_count a d = subst (λ (e : ℕ). length word < term_count a e) (sym is) (degree_bound_least a (length word) ok.weight).exceeds in
        omega arith

    cs_elements : Elements m cs
    cs_elements = polynomial_back (λ c. c < m.size) a d cs ok.weight low terms interpolates.elements

    cs_nonzero : ¬ (Zeros cs)
    cs_nonzero z = interpolates.nonzero (polynomial_each (λ c. c ≡ 0) a d cs z)

    pub finds_on : (t : ℕ) → memory_bytes a (degree_bound a (length word)) ≤ t → first_refusal (root_rows m a d cs r t) ≡ None
    finds_on t h =
        no_refusal (root_rows m a d cs r t) (
          passed_within 1 a 255 ok.weight ok.light,
          (
            passed_within 1 d 257 low high,
            (
              le-ltb (term_count a d) (length cs) terms,
              (
                le-ltb r (found_bytes a d) (subst (λ (e : ℕ). found_bytes a e ≤ r) (sym is) ok.room),
                (
                  le-ltb t (memory_bytes a d) (subst (λ (e : ℕ). memory_bytes a e ≤ t) (sym is) h),
                  (ap not (elements_only_lem m cs cs_elements), (only_zeros_false cs cs_nonzero, tt)),
                ),
              ),
            ),
          ),
        )

    pub decoded : (fs : List (List ℕ)) → RootsFound m (polynomial a d cs) (suc a) (most_y a d) fs → Decoded m a d (points_from 0 word) fs
    decoded fs found = record {
      roots = (polynomial a d cs, interpolates, found);
      complete = λ f e h l.
          found.complete f record {
            coefficients = e;
            elements = h;
            root = agreement_forces_root m laws (points_from 0 word) f (word_points m 0 word ok.elements (omega (arith, ok.places))) (word_places 0 word) h
                a d (polynomial a d cs) interpolates (omega arith) l;
          };
    }
