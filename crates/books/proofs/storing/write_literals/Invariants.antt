use Rattle.std.proofs.Common.{◌≡◌, ◌+◌, ◌++◌, length, take, drop}
use Rattle.books.specs.Stored.{row}
use Rattle.books.proofs.storing.write_literals.Given as goal

abbrev pub invariant-loop-i : goal.invariant-loop-i
invariant-loop-i g l =
    let cs = g.B.ClauseBook.clauses l.book in
    (l.place ≡ length cs + 1 + length (row (take l.i cs))) ×
    (l.words ≡ (take (length cs + 1) l.initial.words ++ row (take l.i cs)) ++ drop l.place l.initial.words)
