use Rattle.std.proofs.Common.{◌≡◌, ◌+◌, ◌-◌, vec_items, arith}
use Rattle.theory.specs.Encodings.{not_both}
use Rattle.network.specs.Points.{counts_of}
use Rattle.encodings.proofs.Bounded.{value_bound}
use Rattle.encodings.proofs.Growing.{counting_more, map_grown, clause_pushed}
use Rattle.encodings.proofs.exactly_one.not_with_later.Goals as goal

pub overflow_step-j : goal.overflow_step-j
overflow_step-j c = omega (arith, value_bound c.args.points.now _ _ c.requires)

pub loop-j-preserved : goal.loop-j-preserved
loop-j-preserved c =
    let i = c.args.i in
    let j = c.loop-j.j in
    let made = c.in_ok-clause.ensures in
    let is : vec_items c.in_ok-clause.clause ≡ not_both (counts_of c.args.points.now) c.args.p i c.args.p j = cc in
    map_grown _ _ _ (counting_more (i + 1) (j - (i + 1)) (j + 1 - (i + 1)) j (omega arith) (omega arith)) _ _ _ _ _ c.loop-j.invariant
    (clause_pushed _ _ _ c.in_ok-push.ensures.items) is
