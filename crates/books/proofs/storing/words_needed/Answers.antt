use Rattle.std.proofs.Common.{◌≡◌, ◌^◌, [], length, get_or, ◌∙◌, arith, rules}
use Rattle.std.proofs.lemmas.Iterator.{YieldsList-from_map, YieldsList-from_range}
use Rattle.std.proofs.lemmas.Iterator.Consumers.{sum_from_yields_List, fits_from_yields_list}
use Rattle.books.specs.Stored.{row}
use Rattle.books.proofs.Counting.{sum_at_places, row_sum}
use Rattle.books.proofs.storing.words_needed.Goals as goal
use Rattle.books.proofs.storing.words_needed.Goals.{After-sum}

pub sum-requires-clause-fits : goal.sum-requires-clause-fits
sum-requires-clause-fits g c =
    let cs = g.B.ClauseBook.clauses c.args.book.now in
    let n = c.count-count.result in
    fits_from_yields_list c.map.result (2 ^ 64)
    (YieldsList-from_map _ (λ i. length (get_or cs i [])) (YieldsList-from_range 0 n n c.map.ensures.source (omega arith)) c.map.ensures.closure (λ x r q k. search rules))
    (omega (arith, sum_at_places cs [] n c.count-count.ensures length, row_sum cs, c.requires))

many : (g : _) (c : After-sum g) → c.sum.result ≡ length (row (g.B.ClauseBook.clauses c.args.book.now))
many g c =
    let cs = g.B.ClauseBook.clauses c.args.book.now in
    let n = c.count-count.result in
    sum_from_yields_List c.map.result c.sum.result c.sum.ensures.ran
    (YieldsList-from_map _ (λ i. length (get_or cs i [])) (YieldsList-from_range 0 n n c.map.ensures.source (omega arith)) c.map.ensures.closure (λ x r q k. search rules)) ∙
    sum_at_places cs [] n c.count-count.ensures length ∙ row_sum cs

pub overflow_add-result-2 : goal.overflow_add-result-2
overflow_add-result-2 g c = omega (arith, many g c, c.count-count.ensures, c.requires)

pub returns : goal.returns
returns g c = omega (arith, many g c, c.count-count.ensures)
