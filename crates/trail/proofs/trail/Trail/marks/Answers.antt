use Rattle.std.proofs.Common.{◌∙◌}
use Rattle.trail.proofs.Invariant.{all_marks}
use Rattle.trail.proofs.trail.Trail.marks.Goals as goal

pub returns : goal.returns
returns c = c.deref.ensures.value ∙ all_marks c.args.self.now
