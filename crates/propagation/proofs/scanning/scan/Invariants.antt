use Rattle.std.proofs.Common.{take}
use Rattle.trail.specs.Parts.{literals_of}
use Rattle.propagation.specs.Finds.{Only}
use Rattle.propagation.proofs.scanning.scan.Given as goal

abbrev pub invariant-loop-literal : goal.invariant-loop-literal
invariant-loop-literal l = Only (literals_of l.trail) (take l.literal-index l.clause) l.open
