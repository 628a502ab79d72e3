use Rattle.std.proofs.Common.{◌≡◌, ◌++◌, map}
use Rattle.std.specs.List.{range_with_len}
use Rattle.theory.specs.Encodings.{some_clause}
use Rattle.network.specs.Points.{counts_of}
use Rattle.encodings.specs.ClauseLists.{clauses_of}
use Rattle.encodings.proofs.exactly_one.at_least_one.Given as goal

abbrev pub invariant-loop-p : goal.invariant-loop-p
invariant-loop-p l = clauses_of l.out ≡ clauses_of l.initial.out ++ map (some_clause (counts_of l.points)) (range_with_len 0 l.p)
