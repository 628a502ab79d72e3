use Rattle.std.proofs.Common.{◌<◌, length, vec_items, sym, ap, subst, arith}
use Rattle.std.specs.List.{range_with_len, flat_map}
use Rattle.network.specs.Points.{entries, values_of}
use Rattle.network.proofs.Lookups.{length_counts}
use Rattle.session.specs.Sessions.{state_of}
use Rattle.page.specs.Pages.{line_text}
use Rattle.page.specs.Writing.{Placed}
use Rattle.page.proofs.Joining.{placed_both}
use Rattle.page.proofs.Lengths.{joined_up, fits_joined}
use Rattle.page.proofs.Marked.{line_given}
use Rattle.page.proofs.lines.write_lines.Goals as goal

pub write_line-at-requires : goal.write_line-at-requires
write_line-at-requires c =
    let s = c.args.session.now in
    let ps = vec_items s.points in
    let p = c.loop-p.p in
    let lt : p < length (values_of (entries ps)) = omega (arith, ap length c.points-point-items.ensures, length_counts ps, c.loop-p-test.true) in
    omega (arith, ap length (line_given s _ p _ _ _ c.points-point-items.ensures c.loop-p-test.true c.point-item.is c.requires.calm c.marks.ensures c.unwrap.ensures), fits_joined (line_text (state_of s)) p (length (values_of (entries ps))) lt, c.loop-p.invariant.0, c.loop-p.auto.out, c.requires.room)

pub loop-p-preserved : goal.loop-p-preserved
loop-p-preserved c =
    let f = line_text (state_of c.args.session.now) in
    let p = c.loop-p.p in
    let line : Placed (f p) c.loop-p.at c.loop-p.out c.write_line-at.new.out c.write_line-at.result =
    subst (λ t. Placed t c.loop-p.at c.loop-p.out c.write_line-at.new.out c.write_line-at.result)
    (line_given c.args.session.now _ p _ _ _ c.points-point-items.ensures c.loop-p-test.true c.point-item.is c.requires.calm c.marks.ensures c.unwrap.ensures) c.write_line-at.ensures in
    subst (λ t. Placed t 0 c.args.out.now c.write_line-at.new.out c.write_line-at.result) (sym (joined_up f p))
    (placed_both (flat_map f (range_with_len 0 p)) (f p) _ _ _ 0 _ _ (omega arith) c.loop-p.invariant line)
