use Rattle.std.proofs.Common.{◌≡◌, ◌+◌, ◌<◌, [], ◌++◌, length, get_or, take, drop, sym, ap, ◌∙◌, arith}
use Rattle.std.proofs.lemmas.List.{append_assoc, length-append, length-take-le}
use Rattle.books.specs.Stored.{row}
use Rattle.books.proofs.Filling.{part_more, row_more, fits_row}
use Rattle.books.proofs.storing.write_literals.Goals as goal

pub write_clause-requires : goal.write_clause-requires
write_clause-requires g c =
    let cs = g.B.ClauseBook.clauses c.args.book.now in
    omega (arith, fits_row cs c.loop-i.i (omega (arith, c.count-i-end.ensures, c.loop-i-test.true)), c.loop-i.invariant.0, c.requires, c.loop-i.auto.words)

pub loop-i-preserved : goal.loop-i-preserved
loop-i-preserved g c =
    let cs = g.B.ClauseBook.clauses c.args.book.now in
    let ws = c.args.words.now in
    let i = c.loop-i.i in
    let p = c.loop-i.place in
    let cl = get_or cs i [] in
    let lt : i < length cs = omega (arith, c.count-i-end.ensures, c.loop-i-test.true) in
    let more = row_more cs i lt in
    let front = take (length cs + 1) ws ++ row (take i cs) in
    let n : length front ≡ p =
    omega (arith, length-append (take (length cs + 1) ws) (row (take i cs)), length-take-le (length cs + 1) ws (omega (arith, c.requires)), c.loop-i.invariant.0) in (
      omega (arith, c.loop-i.invariant.0, c.length-place.ensures, ap length more, length-append (row (take i cs)) cl),
      part_more front cl ws c.loop-i.words c.write_clause.new.words p n c.loop-i.invariant.1 c.write_clause.ensures ∙
          ap (λ t. t ++ drop (p + length cl) ws) (append_assoc (take (length cs + 1) ws) (row (take i cs)) cl ∙ ap (λ t. take (length cs + 1) ws ++ t) (sym more)) ∙
          ap (λ k. (take (length cs + 1) ws ++ row (take (i + 1) cs)) ++ drop (p + k) ws) (sym c.length-place.ensures),
    )
