use Rattle.std.proofs.Common.{rules}
use Rattle.trail.proofs.Marking.{truth_is, truth_past}
use Rattle.trail.proofs.Invariant.{marked_of}
use Rattle.trail.proofs.trail.Trail.truth.Goals as goal

pub returns-in_err-mark : goal.returns-in_err-mark
returns-in_err-mark c = let e = truth_past _ _ _ (marked_of c.args.self.now) c.args.literal in search rules

pub returns : goal.returns
returns c = let e = truth_is _ _ _ (marked_of c.args.self.now) c.args.literal c.in_ok-mark.mark.now in search rules
