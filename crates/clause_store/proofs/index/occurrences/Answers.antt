use Rattle.std.proofs.Common.{◌≡◌, ◌+◌, ◌*◌, ◌<◌, ◌≤◌, length, get_or, set, take, vec_items, ap, ◌∙◌, arith, rules}
use Rattle.std.proofs.lemmas.List.{get_or_read}
use Rattle.std.proofs.lemmas.List.Sums.{sum_by-set}
use Rattle.clause_store.specs.Index.{times}
use Rattle.clause_store.proofs.Times.{times_most, counted}
use Rattle.clause_store.proofs.index.occurrences.Goals as goal

pub overflow_add-index_mut : goal.overflow_add-index_mut
overflow_add-index_mut c =
    let xs = c.args.literals.now in
    let k = c.loop-literal.literal-index in
    let lt = c.loop-literal-test.true in
    let es = vec_items c.loop-literal.counts in
    let x = c.index.result in
    let at : x ≡ get_or xs k 0 = c.index.ensures ∙ get_or_read xs k _ lt c.literal-item.is 0 in
    let lx : x < 2 * c.args.values = omega (arith, at, c.requires k lt) in
    let e = get_or_read es x c.index_mut.result.now (omega (arith, c.loop-literal.invariant.long, c.loop-literal.counts.ok.0)) c.index_mut.ensures.value 0 in
    let h : c.index_mut.result.now ≤ k = omega (arith, e, c.loop-literal.invariant.counts x lx, times_most xs k x (omega arith)) in
    search rules

pub loop-literal-preserved : goal.loop-literal-preserved
loop-literal-preserved c =
    let xs = c.args.literals.now in
    let k = c.loop-literal.literal-index in
    let lt = c.loop-literal-test.true in
    let es = vec_items c.loop-literal.counts in
    let x = c.index.result in
    let at : x ≡ get_or xs k 0 = c.index.ensures ∙ get_or_read xs k _ lt c.literal-item.is 0 in
    let lx : x < length es = omega (arith, at, c.requires k lt, c.loop-literal.invariant.long, c.loop-literal.counts.ok.0) in
    let e = get_or_read es x c.index_mut.result.now lx c.index_mut.ensures.value 0 in
    record {
      long = c.loop-literal.invariant.long;
      counts = λ m h.
          let now = ap (λ n. get_or (set es x (n + 1)) m 0) e ∙ ap (λ n. get_or (set es n (get_or es n 0 + 1)) m 0) at in
          let was : get_or es m 0 ≡ 0 + times (take k xs) m = omega (arith, c.loop-literal.invariant.counts m h) in
          omega (arith, now, counted es xs k m 0 lt (omega (arith, at, lx)) was);
      total = omega (arith, sum_by-set (λ n. n) es x (c.index_mut.result.now + 1) 0 lx, e, c.loop-literal.invariant.total);
    }
