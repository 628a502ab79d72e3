use Rattle.std.proofs.Common.{◌≡◌, ◌+◌, ◌<◌, ◌≤◌, [], ◌∷◌, ◌++◌, length, get_or, take, drop, set, sym, ap, ◌∙◌, arith}
use Rattle.std.proofs.lemmas.List.{append_assoc, take_more, length-append, length-take-le}
use Rattle.books.proofs.Filling.{fill_more}
use Rattle.books.proofs.storing.write_clause.Goals as goal

pub loop-j-preserved : goal.loop-j-preserved
loop-j-preserved g c =
    let ws = c.args.words.now in
    let p = c.args.place in
    let cl = get_or (g.B.ClauseBook.clauses c.args.book.now) c.args.i [] in
    let j = c.loop-j.j in
    let lt : j < length cl = omega (arith, c.length-j-end.ensures, c.loop-j-test.true) in
    let fits : p + length cl ≤ length ws = c.requires in
    let front = take p ws ++ take j cl in
    let n : length front ≡ p + j = omega (arith, length-append (take p ws) (take j cl), length-take-le p ws (omega arith), length-take-le j cl (omega arith)) in
    let next : p + j + 1 ≡ p + (j + 1) = omega arith in
    fill_more front ws _ (p + j) c.literal.result n (omega arith) (ap (λ t. set t (p + j) c.literal.result) c.loop-j.invariant) ∙
    ap (λ t. t ++ drop (p + j + 1) ws) (append_assoc (take p ws) (take j cl) (c.literal.result ∷ []) ∙
    ap (λ t. take p ws ++ t) (ap (λ x. take j cl ++ x ∷ []) c.literal.ensures ∙ sym (take_more cl j 0 lt))) ∙
    ap (λ k. (take p ws ++ take (j + 1) cl) ++ drop k ws) next
