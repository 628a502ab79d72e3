use Rattle.encodings.proofs.Growing.{count_up, joined_grown}
use Rattle.encodings.proofs.pairs.direct.Goals as goal

pub loop-i-preserved : goal.loop-i-preserved
loop-i-preserved c = joined_grown _ _ _ (count_up c.loop-i.i) _ _ _ _ c.loop-i.invariant c.in_ok-barred_with.ensures
