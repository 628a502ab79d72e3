use Rattle.std.proofs.Common.{◌≡◌, ◌++◌, take, string_bytes}
use Rattle.std.specs.List.{flat_map}
use Rattle.commands.specs.Texts.{clause_text}
use Rattle.commands.proofs.text.push_clauses.Given as goal

abbrev pub invariant-loop-i : goal.invariant-loop-i
invariant-loop-i g l = string_bytes l.out ≡ string_bytes l.initial.out ++ flat_map clause_text (take l.i (g.B.ClauseBook.clauses l.book))
