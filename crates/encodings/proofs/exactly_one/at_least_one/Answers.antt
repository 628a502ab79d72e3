use Rattle.encodings.proofs.Growing.{count_up, map_grown, clause_pushed}
use Rattle.encodings.proofs.exactly_one.at_least_one.Goals as goal

pub loop-p-preserved : goal.loop-p-preserved
loop-p-preserved c =
    map_grown _ _ _ (count_up c.loop-p.p) _ _ _ _ _ c.loop-p.invariant
    (clause_pushed _ _ _ c.in_ok-push.ensures.items) c.in_ok-clause.ensures
