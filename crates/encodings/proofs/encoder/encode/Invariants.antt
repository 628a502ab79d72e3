use Rattle.std.proofs.Common.{◌≡◌, ◌++◌, take}
use Rattle.std.specs.List.{flat_map}
use Rattle.theory.specs.Encodings.{table_clauses}
use Rattle.network.specs.Points.{counts_of}
use Rattle.network.specs.Tables.{tables_of}
use Rattle.encodings.specs.ClauseLists.{clauses_of}
use Rattle.encodings.proofs.encoder.encode.Given as goal

abbrev pub invariant-loop-table : goal.invariant-loop-table
invariant-loop-table l =
    clauses_of l.out ≡
    clauses_of l.initial.out ++ flat_map (table_clauses l.encoding (counts_of l.points)) (tables_of (take l.table-index l.table-items))
