-- How propagation ends.
use Rattle.std.specs.Prelude.{Bool, true, false, Ok, Err, Result}
use Rattle.propagation.specs.declared.conflict.Conflict.{Conflict}

-- the one value of `Conflict`
abbrev pub conflict : Conflict
conflict = record {}

-- an error where there is a clash
abbrev pub outcome : Bool → Result (Unit {0}) Conflict
outcome true = Err conflict
outcome false = Ok tt
