use Rattle.std.proofs.Common.{◌≡◌, ◌+◌, ◌∷◌, ◌++◌, length, take, drop}
use Rattle.books.specs.Stored.{row, ends_from}
use Rattle.books.proofs.storing.write_ends.Given as goal

abbrev pub invariant-loop-i : goal.invariant-loop-i
invariant-loop-i g l =
    let cs = g.B.ClauseBook.clauses l.book in
    (l.end ≡ length cs + 1 + length (row (take l.i cs))) ×
    (l.words ≡ (length cs ∷ take l.i (ends_from (length cs + 1) cs)) ++ drop (1 + l.i) l.initial.words)
