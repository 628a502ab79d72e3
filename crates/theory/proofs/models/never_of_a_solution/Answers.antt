use Rattle.theory.proofs.Solutions.{never_marked_out}
use Rattle.theory.proofs.models.never_of_a_solution.Goals as goal

pub returns : goal.returns
returns c = never_marked_out
