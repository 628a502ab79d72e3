use Rattle.std.proofs.Common.{◌+◌, ◌<◌, length, get_or, ap, ◌∙◌, arith, rules}
use Rattle.books.proofs.Words.{literal_at, literal_within}
use Rattle.books.proofs.stored.StoredBookClauseBook.literal.Goals as goal
use Rattle.books.proofs.stored.StoredBookClauseBook.literal.Goals.{After-start}

within : (c : After-start) → c.start.result + c.args.j < length c.args.self.now.words.now
within c =
    let b = c.args.self.now in
    omega (arith, literal_within b.words.now b.stored c.args.i c.args.j (omega (arith, c.if-j-length.true, c.length.ensures)), c.start.ensures)

pub overflow_add-result : goal.overflow_add-result
overflow_add-result c = let b = within c in search rules

pub offset_bounds-self-start : goal.offset_bounds-self-start
offset_bounds-self-start c = let b = within c in search rules

pub bounds-self-start : goal.bounds-self-start
bounds-self-start c = within c

pub returns-then-j-length : goal.returns-then-j-length
returns-then-j-length c =
    let b = c.args.self.now in
    ap (λ k. get_or b.words.now (k + c.args.j) 0) c.start.ensures ∙
    literal_at b.words.now b.stored c.args.i c.args.j (omega (arith, c.if-j-length.true, c.length.ensures))
