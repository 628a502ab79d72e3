use Rattle.std.proofs.Common.{◌≡◌, ◌+◌, ◌<◌, [], ◌∷◌, ◌++◌, length, get_or, take, drop, set, sym, ap, ◌∙◌, add-one, arith}
use Rattle.std.proofs.lemmas.List.{take_more, take_all, length-take-le, length-set, length-append, drop-set-lt}
use Rattle.books.specs.Stored.{row, ends_from}
use Rattle.books.proofs.Filling.{fill_more, row_more, fits_row, length_ends, end_at}
use Rattle.books.proofs.storing.write_ends.Goals as goal

pub overflow_add-end-in-loop-i : goal.overflow_add-end-in-loop-i
overflow_add-end-in-loop-i g c =
    let cs = g.B.ClauseBook.clauses c.args.book.now in
    omega (arith, fits_row cs c.loop-i.i (omega (arith, c.count-i-end.ensures, c.loop-i-test.true)), c.loop-i.invariant.0, c.requires.small, c.length-end.ensures)

pub overflow_cast-words-in-loop-i : goal.overflow_cast-words-in-loop-i
overflow_cast-words-in-loop-i g c =
    let cs = g.B.ClauseBook.clauses c.args.book.now in
    omega (arith, fits_row cs c.loop-i.i (omega (arith, c.count-i-end.ensures, c.loop-i-test.true)), c.loop-i.invariant.0, c.requires.small, c.length-end.ensures)

pub loop-i-preserved : goal.loop-i-preserved
loop-i-preserved g c =
    let cs = g.B.ClauseBook.clauses c.args.book.now in
    let ws = set c.args.words.now 0 c.count.result in
    let i = c.loop-i.i in
    let es = ends_from (length cs + 1) cs in
    let lt : i < length cs = omega (arith, c.count-i-end.ensures, c.loop-i-test.true) in
    let le = length_ends (length cs + 1) cs in
    let more = row_more cs i lt in
    let end = c.loop-i.end + c.length-end.result in
    let is : end ≡ length cs + 1 + length (row (take (i + 1) cs)) =
    omega (arith, c.loop-i.invariant.0, c.length-end.ensures, ap length more, length-append (row (take i cs)) (get_or cs i [])) in
    let at : end ≡ get_or es i 0 = is ∙ ap (λ k. length cs + 1 + length (row (take k cs))) (add-one i) ∙ sym (end_at (length cs + 1) cs i lt) in
    let n : length (length cs ∷ take i es) ≡ 1 + i = omega (arith, length-take-le i es (omega arith)) in
    let next : 1 + i + 1 ≡ 1 + (i + 1) = omega arith in (
      is,
      fill_more (length cs ∷ take i es) ws _ (1 + i) end n (omega (arith, length-set c.args.words.now 0 c.count.result, c.requires.room)) (ap (λ t. set t (1 + i) end) c.loop-i.invariant.1) ∙
          ap (λ x. (length cs ∷ (take i es ++ x ∷ [])) ++ drop (1 + i + 1) ws) at ∙
          ap (λ t. (length cs ∷ t) ++ drop (1 + i + 1) ws) (sym (take_more es i 0 (omega arith))) ∙
          ap (λ k. (length cs ∷ take (i + 1) es) ++ drop k ws) next,
    )

pub returns : goal.returns
returns g c =
    let cs = g.B.ClauseBook.clauses c.args.book.now in
    let ws = set c.args.words.now 0 c.count.result in
    let es = ends_from (length cs + 1) cs in
    let le = length_ends (length cs + 1) cs in
    let i : c.loop-i.i ≡ length cs = omega (arith, c.count-i-end.ensures, c.loop-i-test.false, c.loop-i.auto.i-end) in
    c.loop-i.invariant.1 ∙ ap (λ k. (length cs ∷ take k es) ++ drop (1 + k) ws) i ∙
    ap (λ t. (length cs ∷ t) ++ drop (1 + length cs) ws) (take_all (length cs) es (omega arith)) ∙
    ap (λ t. (length cs ∷ es) ++ t) (drop-set-lt (1 + length cs) c.args.words.now 0 c.count.result (omega arith))
