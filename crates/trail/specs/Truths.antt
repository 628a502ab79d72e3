-- What a list of literals says of a literal.
use Rattle.std.specs.Prelude.{ℕ, Bool, true, false, cond, List, Some, None, Option}
use Rattle.theory.specs.Lists.{has}
use Rattle.theory.specs.Literals.{opposite}

-- a literal of the list is true, one whose opposite is in the list is false, and of any other the list says nothing
abbrev pub truth_of : List ℕ → ℕ → Option Bool
truth_of t l = cond (has t l) (Some true) (cond (has t (opposite l)) (Some false) None)
