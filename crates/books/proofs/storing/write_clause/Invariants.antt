use Rattle.std.proofs.Common.{◌≡◌, ◌+◌, [], ◌++◌, get_or, take, drop}
use Rattle.books.proofs.storing.write_clause.Given as goal

abbrev pub invariant-loop-j : goal.invariant-loop-j
invariant-loop-j g l =
    l.words ≡ (take l.place l.initial.words ++ take l.j (get_or (g.B.ClauseBook.clauses l.book) l.i [])) ++ drop (l.place + l.j) l.initial.words
