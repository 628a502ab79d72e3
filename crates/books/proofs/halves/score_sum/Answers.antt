use Rattle.std.proofs.Common.{◌^◌, [], get_or, ◌∙◌, arith, rules}
use Rattle.std.proofs.lemmas.Iterator.{YieldsList-from_map, YieldsList-from_range}
use Rattle.std.proofs.lemmas.Iterator.Consumers.{sum_from_yields_List, fits_from_yields_list}
use Rattle.books.proofs.Counting.{score_of, sum_at_places, scores_sum, scores_bound}
use Rattle.books.proofs.halves.score_sum.Goals as goal

pub sum-requires-clause-fits : goal.sum-requires-clause-fits
sum-requires-clause-fits g c =
    let cs = g.B.ClauseBook.clauses c.args.book.now in
    let n = c.count.result in
    fits_from_yields_list c.map.result (2 ^ 64)
    (YieldsList-from_map _ (λ i. score_of (get_or cs i [])) (YieldsList-from_range 0 n n c.map.ensures.source (omega arith)) c.map.ensures.closure (λ x r q k. search rules))
    (omega (arith, sum_at_places cs [] n c.count.ensures score_of, scores_sum cs, scores_bound cs, c.requires))

pub returns : goal.returns
returns g c =
    let cs = g.B.ClauseBook.clauses c.args.book.now in
    let n = c.count.result in
    sum_from_yields_List c.map.result c.sum.result c.sum.ensures.ran
    (YieldsList-from_map _ (λ i. score_of (get_or cs i [])) (YieldsList-from_range 0 n n c.map.ensures.source (omega arith)) c.map.ensures.closure (λ x r q k. search rules)) ∙
    sum_at_places cs [] n c.count.ensures score_of ∙ scores_sum cs
