use Rattle.std.proofs.Common.{length, ap, ◌∙◌, arith}
use Rattle.std.specs.List.{range_with_len, flat_map}
use Rattle.std.proofs.lemmas.List.{length-append}
use Rattle.session.specs.Sessions.{state_of}
use Rattle.page.specs.Pages.{line_text}
use Rattle.page.proofs.Lengths.{joined_up, length_line}
use Rattle.page.proofs.lines.lines_length.Goals as goal

pub loop-point-preserved : goal.loop-point-preserved
loop-point-preserved c =
    let s = c.args.session.now in
    let i = c.loop-point.point-index in
    let p = c.point-item.result in
    let line = length_line s _ i p c.points-point-items.ensures c.loop-point-test.true c.point-item.is in
    let f = line_text (state_of s) in
    let more = ap length (joined_up f i) ∙ length-append (flat_map f (range_with_len 0 i)) (f i) in
    let label = ap length c.label.ensures in
    (omega (arith, c.loop-point.invariant.0, c.values.ensures, c.label.type_inv), omega (arith, c.loop-point.invariant.1, p.within.1, c.values.ensures, c.label.type_inv))
