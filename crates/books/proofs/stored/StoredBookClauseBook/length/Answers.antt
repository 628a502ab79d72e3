use Rattle.std.proofs.Common.{◌≡◌, ◌+◌, ◌<◌, get_or, ap, ◌∙◌, arith}
use Rattle.books.specs.Stored.{count_of}
use Rattle.books.proofs.Words.{many, wide}
use Rattle.books.proofs.stored.StoredBookClauseBook.length.Goals as goal

pub overflow_sub-result : goal.overflow_sub-result
overflow_sub-result c =
    let b = c.args.self.now in
    let ws = b.words.now in
    let h : c.args.i < count_of ws = omega (arith, many ws, c.if-i-count.true, c.count.ensures) in
    let next : c.args.i + 1 ≡ 1 + c.args.i = omega arith in
    omega (arith, b.stored.rising c.args.i h, c.word.ensures ∙ ap (λ k. get_or ws k 0) next, c.start.ensures)

pub returns-then-i-count : goal.returns-then-i-count
returns-then-i-count c =
    let b = c.args.self.now in
    let ws = b.words.now in
    let h : c.args.i < count_of ws = omega (arith, many ws, c.if-i-count.true, c.count.ensures) in
    let next : c.args.i + 1 ≡ 1 + c.args.i = omega arith in
    omega (arith, wide ws b.stored c.args.i h, c.word.ensures ∙ ap (λ k. get_or ws k 0) next, c.start.ensures)
