use Rattle.std.proofs.Common.{◌≡◌, [], vec_items, arith}
use Rattle.theory.specs.Literals.{is_in}
use Rattle.theory.specs.Numbering.{number}
use Rattle.network.specs.Points.{counts_of}
use Rattle.encodings.proofs.Growing.{count_up, map_grown}
use Rattle.encodings.proofs.clause.some_clause.Goals as goal

pub loop-i-preserved : goal.loop-i-preserved
loop-i-preserved c =
    let is : c.from.result ≡ is_in (number (counts_of c.args.points.now) c.args.point c.loop-i.i) = omega arith in
    map_grown _ _ _ (count_up c.loop-i.i) [] _ (vec_items c.push.new.self) _ _ c.loop-i.invariant c.in_ok-push.ensures.items is
