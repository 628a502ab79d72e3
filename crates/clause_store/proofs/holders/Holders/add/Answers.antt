use Rattle.std.proofs.Common.{◌≡◌, ◌+◌, ◌<◌, ◌||◌, [], ◌∷◌, ◌++◌, length, get_or, set, take, vec_items, vec_len, ap, ◌∙◌, arith}
use Rattle.std.proofs.lemmas.List.{get_or_read, length-set, take_all}
use Rattle.theory.specs.Lists.{has}
use Rattle.clause_store.specs.Index.{named}
use Rattle.clause_store.specs.Storage.{held_of}
use Rattle.clause_store.proofs.Times.{times_left, counted, named_more, has_append, has_named}
use Rattle.clause_store.proofs.holders.Holders.add.Goals as goal

pub put-requires-clause-room : goal.put-requires-clause-room
put-requires-clause-room c =
    let cl = c.args.clause.now in
    let k = c.loop-literal.literal-index in
    let lt = c.loop-literal-test.true in
    let x = c.literal-item.result in
    let at : x ≡ get_or cl k 0 = get_or_read cl k x lt c.literal-item.is 0 in
    let lx : x < vec_len c.args.self.now.ends = omega (arith, at, c.requires.literals k lt) in
    omega (
      arith,
      c.loop-literal.invariant.ends x lx,
      c.requires.room x lx,
      times_left cl k x lt at,
      ap (λ v. get_or (vec_items v) (x + 1) 0) c.loop-literal.invariant.starts,
    )

pub loop-literal-preserved : goal.loop-literal-preserved
loop-literal-preserved c =
    let cl = c.args.clause.now in
    let k = c.loop-literal.literal-index in
    let lt = c.loop-literal-test.true in
    let x = c.literal-item.result in
    let at : x ≡ get_or cl k 0 = get_or_read cl k x lt c.literal-item.is 0 in
    let es = vec_items c.loop-literal.self.ends in
    let is = c.put.ensures.ends ∙ ap (λ n. set es n (get_or es n 0 + 1)) at in
    let in_es : get_or cl k 0 < length es = omega (arith, c.requires.literals k lt, c.loop-literal.invariant.many, c.loop-literal.self.ends.ok.0) in
    record {
      once = λ m.
          c.put.ensures.held m ∙ ap (λ ys. ys ++ named (x ∷ []) m c.args.i) (c.loop-literal.invariant.once m) ∙
          ap (λ y. (held_of c.args.self.now m ++ named (take k cl) m c.args.i) ++ named (y ∷ []) m c.args.i) at ∙
          named_more cl k m c.args.i (held_of c.args.self.now m) lt;
      ends = λ m h. ap (λ v. get_or v m 0) is ∙ counted es cl k m (get_or (vec_items c.args.self.now.ends) m 0) lt in_es (c.loop-literal.invariant.ends m h);
      many = omega (arith, ap length is, length-set es (get_or cl k 0) (get_or es (get_or cl k 0) 0 + 1), c.put.new.self.ends.ok.0, c.loop-literal.self.ends.ok.0, c.loop-literal.invariant.many);
      starts = c.put.ensures.starts ∙ c.loop-literal.invariant.starts;
      row = c.put.ensures.row ∙ c.loop-literal.invariant.row;
    }

pub returns-clause-exact : goal.returns-clause-exact
returns-clause-exact c = λ l j.
    let cl = c.args.clause.now in
    let k = c.loop-literal.literal-index in
    let old = held_of c.args.self.now l in
    ap (λ ys. has ys j) (c.loop-literal.invariant.once l) ∙ ap (λ d. has (old ++ named d l c.args.i) j) (take_all k cl c.loop-literal-test.false) ∙
    has_append old (named cl l c.args.i) j ∙ ap (λ b. has old j || b) (has_named cl l c.args.i j)
