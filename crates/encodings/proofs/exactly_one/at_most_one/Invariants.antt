use Rattle.std.proofs.Common.{◌≡◌, ◌++◌}
use Rattle.std.specs.List.{range_with_len, flat_map}
use Rattle.theory.specs.Encodings.{not_two}
use Rattle.network.specs.Points.{counts_of}
use Rattle.encodings.specs.ClauseLists.{clauses_of}
use Rattle.encodings.proofs.exactly_one.at_most_one.Given as goal

abbrev pub invariant-loop-p : goal.invariant-loop-p
invariant-loop-p l = clauses_of l.out ≡ clauses_of l.initial.out ++ flat_map (not_two (counts_of l.points)) (range_with_len 0 l.p)
