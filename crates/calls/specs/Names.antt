-- The names of the outcomes of a decision, as programs write them.
use Rattle.std.specs.Prelude.{ℕ, List, codes}
use Rattle.calls.specs.declared.call.Decided.{Decided}
use Rattle.calls.specs.declared.call.Decided.TheVariants.{Taken, Clash, Already}

-- the name of how a decision went
abbrev pub decided_name : Decided → List ℕ
decided_name Taken = codes "taken"
decided_name Clash = codes "clash"
decided_name Already = codes "already"
