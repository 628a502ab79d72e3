use Rattle.std.proofs.Common.{◌≡◌, ℕ, ◌<◌, List, length, get_or, drop}
use Rattle.theory.specs.Numbering.{place}
use Rattle.network.proofs.Places.{later_by}
use Rattle.network.proofs.blocks.locate.Given as goal

abbrev pub invariant-loop-i : goal.invariant-loop-i
invariant-loop-i g l =
    (sizes : List ℕ) → length sizes ≡ l.blocks → ((i r : ℕ) → i < l.blocks → goal.F-post g l.size i r → r ≡ get_or sizes i 0) →
    later_by l.i (place (drop l.i sizes) l.left) ≡ place sizes l.n
