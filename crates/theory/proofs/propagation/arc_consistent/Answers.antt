use Rattle.theory.proofs.Families.{strikes_exactly, clashes_exactly}
use Rattle.theory.proofs.propagation.arc_consistent.Goals as goal

pub returns : goal.returns
returns c = record { strikes = strikes_exactly; clashes = clashes_exactly }
