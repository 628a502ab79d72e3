use Rattle.std.proofs.Common.{◌+◌, map, take}
use Rattle.page.specs.Pages.{sign_text}
use Rattle.page.specs.Writing.{Placed}
use Rattle.page.proofs.signs.write_signs.Given as goal

abbrev pub invariant-loop-v : goal.invariant-loop-v
invariant-loop-v l = Placed (take l.v (map sign_text l.marks)) l.at l.initial.out l.out (l.at + l.v)
