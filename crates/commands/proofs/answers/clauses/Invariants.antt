use Rattle.std.proofs.Common.{◌≡◌, ◌++◌, take, string_bytes}
use Rattle.std.specs.List.{flat_map}
use Rattle.theory.specs.Encodings.{table_clauses}
use Rattle.network.specs.Points.{counts_of}
use Rattle.network.specs.Tables.{tables_of}
use Rattle.commands.specs.Texts.{clause_text}
use Rattle.commands.proofs.answers.clauses.Given as goal

abbrev pub invariant-loop-table : goal.invariant-loop-table
invariant-loop-table l =
    string_bytes l.out ≡
    string_bytes l.initial.out ++
    flat_map clause_text (flat_map (table_clauses l.encoding (counts_of l.points)) (tables_of (take l.table-index l.table-items)))
