-- What is written of the scores of a table's halves.
use Rattle.std.specs.Prelude.{ℕ, List, ◌++◌, codes, decimal}
use Rattle.theory.specs.Names.{side_name}
use Rattle.theory.specs.declared.Side.{Side}

-- the name of the better half's side, the sum of the lower half and that of the higher half, one space apart
abbrev pub scores_text : Side → ℕ → ℕ → List ℕ
scores_text s low high = side_name s ++ (codes " " ++ (decimal low ++ (codes " " ++ decimal high)))
