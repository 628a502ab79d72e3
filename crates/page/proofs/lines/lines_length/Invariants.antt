use Rattle.std.proofs.Common.{◌≡◌, ◌*◌, ◌≤◌, length}
use Rattle.std.specs.List.{range_with_len, flat_map}
use Rattle.session.specs.Sessions.{state_of}
use Rattle.page.specs.Pages.{line_text}
use Rattle.page.proofs.lines.lines_length.Given as goal

abbrev pub invariant-loop-point : goal.invariant-loop-point
invariant-loop-point l =
    (l.sum ≡ length (flat_map (line_text (state_of l.session)) (range_with_len 0 l.point-index))) × (l.sum ≤ 26 * l.point-index)
