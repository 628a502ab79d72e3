use Rattle.std.proofs.Common.{◌+◌, ◌*◌, ◌<◌, ◌||◌, ◌&&◌, eqb, [], length, get_or, drop, vec_items, sym, ap, ◌∙◌, subst, arith}
use Rattle.std.proofs.lemmas.List.{drop_more}
use Rattle.theory.specs.Lists.{◌∈◌, has}
use Rattle.theory.proofs.Members.{in_at}
use Rattle.books.specs.Stored.{row}
use Rattle.clause_store.specs.Storage.{flat_of}
use Rattle.clause_store.specs.Index.{times}
use Rattle.clause_store.proofs.Parts.{row_below}
use Rattle.clause_store.proofs.Times.{times_append}
use Rattle.clause_store.proofs.Indexing.{one_clause_more}
use Rattle.clause_store.proofs.index.index.Goals as goal

pub occurrences-requires : goal.occurrences-requires
occurrences-requires c = λ k h.
    let cs = flat_of c.args.clauses.now in
    let e = c.deref.ensures.value ∙ c.args.clauses.now.whole in
    subst (λ xs. get_or xs k 0 < 2 * c.args.values) (sym e) (row_below c.args.values cs c.requires k (omega (arith, ap length e)))

pub add-requires-clause-literals : goal.add-requires-clause-literals
add-requires-clause-literals c = λ k h.
    let cs = flat_of c.args.clauses.now in
    let i = c.loop-i.i in
    let cl = c.clause.result.now in
    let here : get_or cs i [] ∈ cs = in_at cs [] i (omega arith) in
    let x = get_or cl k 0 in
    omega (arith, c.requires (get_or cs i []) here x (subst (λ xs. x ∈ xs) c.clause.ensures (in_at cl 0 k h)), c.loop-i.invariant.wide)

pub loop-i-preserved : goal.loop-i-preserved
loop-i-preserved c =
    let cs = flat_of c.args.clauses.now in
    let i = c.loop-i.i in
    let lt : i < length cs = omega arith in
    let cl = c.clause.result.now in
    record {
      wide = c.add.ensures.many ∙ c.loop-i.invariant.wide;
      exact = λ l j.
          c.add.ensures.exact l j ∙ ap (λ b. b || (has cl l && eqb j i)) (c.loop-i.invariant.exact l j) ∙ one_clause_more cs cl i l j lt c.clause.ensures;
      room = λ m h.
          let rest = ap (λ ds. times (row ds) m) (drop_more cs i [] lt) ∙ times_append (get_or cs i []) (row (drop (i + 1) cs)) m in
          omega (
            arith,
            rest,
            ap (λ d. times d m) c.clause.ensures,
            c.add.ensures.ends m (omega (arith, c.loop-i.invariant.wide)),
            ap (λ v. get_or (vec_items v) (m + 1) 0) c.add.ensures.starts,
            c.loop-i.invariant.room m h,
          );
      whole = c.add.ensures.row ∙ c.loop-i.invariant.whole;
    }
