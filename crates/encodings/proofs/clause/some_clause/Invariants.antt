use Rattle.std.proofs.Common.{◌≡◌, map, vec_items}
use Rattle.std.specs.List.{range_with_len}
use Rattle.theory.specs.Literals.{is_in}
use Rattle.theory.specs.Numbering.{number}
use Rattle.network.specs.Points.{counts_of}
use Rattle.encodings.proofs.clause.some_clause.Given as goal

abbrev pub invariant-loop-i : goal.invariant-loop-i
invariant-loop-i l = vec_items l.clause ≡ map (λ i. is_in (number (counts_of l.points) l.point i)) (range_with_len 0 l.i)
