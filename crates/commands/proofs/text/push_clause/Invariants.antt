use Rattle.std.proofs.Common.{◌≡◌, [], ◌++◌, get_or, take, string_bytes}
use Rattle.commands.specs.Texts.{literals_text}
use Rattle.commands.proofs.text.push_clause.Given as goal

abbrev pub invariant-loop-j : goal.invariant-loop-j
invariant-loop-j g l = string_bytes l.out ≡ string_bytes l.initial.out ++ literals_text (take l.j (get_or (g.B.ClauseBook.clauses l.book) l.i []))
