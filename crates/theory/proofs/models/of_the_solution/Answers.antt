use Rattle.theory.proofs.Solutions.{makes_the_solution_in}
use Rattle.theory.proofs.models.of_the_solution.Goals as goal

pub returns : goal.returns
returns c = makes_the_solution_in
