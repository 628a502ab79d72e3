-- The parts of decisions.
use Rattle.std.specs.Prelude.{ℕ, List, map}
use Rattle.propagator.specs.declared.propagator.decision.Decision.{Decision}

-- what was decided, in order
abbrev pub literals_in : List Decision → List ℕ
literals_in ds = map (λ (d : Decision). d.literal) ds

-- how long the trail was before each decision
abbrev pub heights_in : List Decision → List ℕ
heights_in ds = map (λ (d : Decision). d.height) ds
