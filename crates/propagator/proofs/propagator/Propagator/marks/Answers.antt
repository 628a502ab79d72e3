use Rattle.std.proofs.Common.{map, Some, sym, ap, ◌∙◌}
use Rattle.std.specs.List.{range_with_len}
use Rattle.propagator.proofs.Invariant.{standing_of, mark_of_lem}
use Rattle.propagator.proofs.propagator.Propagator.marks.Goals as goal

pub returns : goal.returns
returns c =
    let p = c.args.self.now in
    let calm = sym (standing_of p).flag ∙ c.if-self.false in
    rw calm (ap Some (sym (c.marks.ensures ∙ (λ i. map (λ v. mark_of_lem p calm v i) (range_with_len 0 (sym p.sized i))))))
