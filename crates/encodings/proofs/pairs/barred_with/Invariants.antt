use Rattle.std.proofs.Common.{◌≡◌, not, ◌++◌, map, filter}
use Rattle.std.specs.List.{range_with_len}
use Rattle.theory.specs.Encodings.{not_both}
use Rattle.theory.specs.Network.{allows}
use Rattle.network.specs.Points.{counts_of}
use Rattle.network.specs.Tables.{table_of}
use Rattle.encodings.specs.ClauseLists.{clauses_of}
use Rattle.encodings.proofs.pairs.barred_with.Given as goal

abbrev pub invariant-loop-j : goal.invariant-loop-j
invariant-loop-j l =
    clauses_of l.out ≡
    clauses_of l.initial.out ++
    map (not_both (counts_of l.points) l.table.low l.i l.table.high) (filter (λ j. not (allows (table_of l.table) l.i j)) (range_with_len 0 l.j))
