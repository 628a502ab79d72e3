use Rattle.std.proofs.lemmas.Result.{IfOk-from_err}
use Rattle.encodings.proofs.Growing.{count_up, map_grown, clause_pushed}
use Rattle.encodings.proofs.halves.half.Goals as goal

pub returns-in_err-clause : goal.returns-in_err-clause
returns-in_err-clause c = IfOk-from_err c.from_residual.result _ c.from_residual.ensures.0

pub loop-i-preserved : goal.loop-i-preserved
loop-i-preserved c =
    map_grown _ _ _ (count_up c.loop-i.i) _ _ _ _ _ c.loop-i.invariant
    (clause_pushed _ _ _ c.in_ok-push.ensures.items) c.in_ok-clause.ensures
