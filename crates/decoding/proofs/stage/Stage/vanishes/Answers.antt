use Rattle.std.proofs.Common.{◌≡◌, ℕ, List, true, false, eqb, Some, sym, ap, ◌∙◌, subst, arith, rules}
use borrow.Author.Tests.{tests}
use Rattle.std.proofs.lemmas.Bool.{eqb-true, eqb-false, MatchBool-at_true, MatchBool-at_false}
use Rattle.std.specs.Iterator.Runs.{IsChunksExactRun}
use Rattle.std.specs.Option.{option_eq}
use Rattle.std.specs.Slice.Iter.{chunks_exact_size, chunks_exact_rest}
use Rattle.bivariate.specs.Values.{value_answer}
use Rattle.bivariate.proofs.GridRoots.{group-elements}
use Rattle.decoding.proofs.Entries.{zero_answered, group-count, group_below, each_passed, some_passed, root_by_groups}
use Rattle.decoding.proofs.stage.Stage.vanishes.Goals as goal

pub returns : goal.returns
returns g c =
    let m = g.F.Field.meaning c.args.self.now.field.now in
    let laws = g.met.F.Field.lawful c.args.self.now.field.now in
    let s = c.args.self.now in
    let run = c.all.ensures.runs in
    let p = run.0 in
    let size : chunks_exact_size p.from ≡ s.shape.w = ap chunks_exact_size run.1 ∙ c.chunks_exact.ensures.size in
    let rest : chunks_exact_rest p.from ≡ s.cells.now = ap chunks_exact_rest run.1 ∙ c.chunks_exact.ensures.rest in
    let groups : IsChunksExactRun p s.shape.w s.cells.now =
    subst (λ (n : ℕ). IsChunksExactRun p n s.cells.now) size
    (subst (λ (l : List ℕ). IsChunksExactRun p (chunks_exact_size p.from) l) rest (c.chunks_exact.ensures.runs p p.seen (omega (arith, size, s.shape.wide)))) in
    record {
      yes = λ e.
          let k = MatchBool-at_true _ _ e run.2 in
          (root_by_groups m laws s.shape.w s.shape.d c.args.c s.cells.now s.elements c.requires.element s.sized).1
          (λ n l.
          let h = each_passed p s.cells s.shape.w s.cells.now groups _ k.0 (k.1 (λ a r q t. search (rules, tests))) n
          (omega (arith, l, group-count s.shape.w s.shape.d s.cells.now s.shape.wide s.sized)) in
          let told : true ≡ option_eq eqb (value_answer m h.0.now c.args.c) (Some 0) = search (rules, tests) in
          eqb-true _ _ (sym (zero_answered m _ _ c.args.c true h.1 (group-elements m laws s.shape.w s.cells.now n s.elements) c.requires.element told)));
      no = λ e r.
          let k = MatchBool-at_false _ _ e run.2 in
          let h = some_passed p s.cells s.shape.w s.cells.now groups _ (k (λ a r q t. search (rules, tests))) in
          let told : false ≡ option_eq eqb (value_answer m h.2.now c.args.c) (Some 0) = search (rules, tests) in
          eqb-false _ _ (sym (zero_answered m _ _ c.args.c false h.3 (group-elements m laws s.shape.w s.cells.now h.0 s.elements) c.requires.element told))
          ((root_by_groups m laws s.shape.w s.shape.d c.args.c s.cells.now s.elements c.requires.element s.sized).0 r h.0
          (group_below s.shape.w s.shape.d h.0 s.cells.now s.shape.wide s.sized h.1));
    }
