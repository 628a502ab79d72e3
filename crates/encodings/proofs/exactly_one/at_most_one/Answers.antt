use Rattle.encodings.proofs.Growing.{count_up, joined_grown}
use Rattle.encodings.proofs.exactly_one.at_most_one.Goals as goal

pub loop-p-preserved : goal.loop-p-preserved
loop-p-preserved c = joined_grown _ _ _ (count_up c.loop-p.p) _ _ _ _ c.loop-p.invariant c.in_ok-not_two.ensures
