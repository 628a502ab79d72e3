use Rattle.std.proofs.Common.{◌≡◌, ◌++◌}
use Rattle.std.specs.List.{range_with_len, flat_map}
use Rattle.theory.specs.Encodings.{barred_with}
use Rattle.network.specs.Points.{counts_of}
use Rattle.network.specs.Tables.{table_of}
use Rattle.encodings.specs.ClauseLists.{clauses_of}
use Rattle.encodings.proofs.pairs.direct.Given as goal

abbrev pub invariant-loop-i : goal.invariant-loop-i
invariant-loop-i l = clauses_of l.out ≡ clauses_of l.initial.out ++ flat_map (barred_with (counts_of l.points) (table_of l.table)) (range_with_len 0 l.i)
