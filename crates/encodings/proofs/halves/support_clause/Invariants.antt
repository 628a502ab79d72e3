use Rattle.std.proofs.Common.{◌≡◌, ◌∷◌, map, vec_items, filter}
use Rattle.std.specs.List.{range_with_len}
use Rattle.theory.specs.Literals.{is_in, is_out}
use Rattle.theory.specs.Network.{near, far, partner}
use Rattle.theory.specs.Numbering.{number}
use Rattle.network.specs.Points.{counts_of}
use Rattle.network.specs.Tables.{table_of}
use Rattle.encodings.proofs.halves.support_clause.Given as goal

abbrev pub invariant-loop-j : goal.invariant-loop-j
invariant-loop-j l =
    let ks = counts_of l.points in
    let t = table_of l.table in
    vec_items l.clause ≡
    is_out (number ks (near l.side t) l.i) ∷ map (λ j. is_in (number ks (far l.side t) j)) (filter (partner l.side t l.i) (range_with_len 0 l.j))
