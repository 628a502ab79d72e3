use Rattle.std.proofs.Common.{◌≡◌, ◌++◌}
use Rattle.std.specs.List.{range_with_len, flat_map}
use Rattle.theory.specs.Encodings.{not_with_later}
use Rattle.network.specs.Points.{counts_of}
use Rattle.encodings.specs.ClauseLists.{clauses_of}
use Rattle.encodings.proofs.exactly_one.not_two.Given as goal

abbrev pub invariant-loop-i : goal.invariant-loop-i
invariant-loop-i l = clauses_of l.out ≡ clauses_of l.initial.out ++ flat_map (not_with_later (counts_of l.points) l.p) (range_with_len 0 l.i)
