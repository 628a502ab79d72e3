use Rattle.std.proofs.Common.{◌≡◌, [], get_or, IfOk, vec_items, subst, arith, rules}
use Rattle.std.proofs.lemmas.Iterator.{YieldsList-from_map, YieldsList-from_range, items_from_collect}
use Rattle.books.proofs.Counting.{at_each_place}
use Rattle.books.proofs.lists.to_list.Goals as goal

pub returns : goal.returns
returns g c =
    let clause = get_or (g.B.ClauseBook.clauses c.args.book.now) c.args.i [] in
    subst (λ ls. IfOk c.collect.result (λ v. vec_items v ≡ ls)) (at_each_place clause 0 c.length.result c.length.ensures)
    (items_from_collect _ c.collect.ensures.ran
    (YieldsList-from_map _ (λ j. get_or clause j 0) (YieldsList-from_range 0 c.length.result c.length.result c.map.ensures.source (omega arith)) c.map.ensures.closure (λ x r q k. search rules)))
