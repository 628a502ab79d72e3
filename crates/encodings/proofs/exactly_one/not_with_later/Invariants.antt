use Rattle.std.proofs.Common.{◌≡◌, ◌+◌, ◌-◌, ◌++◌, map}
use Rattle.std.specs.List.{range_with_len}
use Rattle.theory.specs.Encodings.{not_both}
use Rattle.network.specs.Points.{counts_of}
use Rattle.encodings.specs.ClauseLists.{clauses_of}
use Rattle.encodings.proofs.exactly_one.not_with_later.Given as goal

abbrev pub invariant-loop-j : goal.invariant-loop-j
invariant-loop-j l =
    clauses_of l.out ≡ clauses_of l.initial.out ++ map (not_both (counts_of l.points) l.p l.i l.p) (range_with_len (l.i + 1) (l.j - (l.i + 1)))
