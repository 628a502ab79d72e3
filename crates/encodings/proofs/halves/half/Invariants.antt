use Rattle.std.proofs.Common.{◌≡◌, ◌++◌, map}
use Rattle.std.specs.List.{range_with_len}
use Rattle.theory.specs.Encodings.{support_clause}
use Rattle.network.specs.Points.{counts_of}
use Rattle.network.specs.Tables.{table_of}
use Rattle.encodings.specs.ClauseLists.{clauses_of}
use Rattle.encodings.proofs.halves.half.Given as goal

abbrev pub invariant-loop-i : goal.invariant-loop-i
invariant-loop-i l =
    clauses_of l.out ≡ clauses_of l.initial.out ++ map (support_clause (counts_of l.points) l.side (table_of l.table)) (range_with_len 0 l.i)
