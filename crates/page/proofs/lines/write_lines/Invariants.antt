use Rattle.std.specs.List.{range_with_len, flat_map}
use Rattle.session.specs.Sessions.{state_of}
use Rattle.page.specs.Pages.{line_text}
use Rattle.page.specs.Writing.{Placed}
use Rattle.page.proofs.lines.write_lines.Given as goal

abbrev pub invariant-loop-p : goal.invariant-loop-p
invariant-loop-p l = Placed (flat_map (line_text (state_of l.session)) (range_with_len 0 l.p)) 0 l.initial.out l.out l.at
