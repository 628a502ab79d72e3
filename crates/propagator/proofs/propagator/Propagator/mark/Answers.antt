use Rattle.std.proofs.Common.{◌∙◌}
use Rattle.propagator.specs.States.{state_of}
use Rattle.propagator.proofs.Invariant.{got, one_of_marks}
use Rattle.propagator.proofs.propagator.Propagator.mark.Goals as goal

pub returns : goal.returns
returns c =
    let ms = c.in_ok-marks.field-0.now in
    let n = c.args.n in
    c.copied.ensures ∙ got ms n c.get.result c.get.ensures.lookup.0 c.get.ensures.lookup.1 ∙ one_of_marks (state_of c.args.self.now) ms n c.in_ok-marks.ensures
