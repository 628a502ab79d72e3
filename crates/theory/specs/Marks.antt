-- Clashes and marks, by the reached set.
use Rattle.std.specs.Prelude.{ℕ, Bool, false, cond, ◌||◌, List, [], ◌∷◌}
use Rattle.theory.specs.declared.Mark.{Mark}
use Rattle.theory.specs.declared.Mark.TheVariants.{In, Out, Open}
use Rattle.theory.specs.Lists.{has}
use Rattle.theory.specs.Literals.{is_in, is_out, opposite}
use Rattle.theory.specs.Reached.{reached_set}

-- some literal of the list has its opposite in s
abbrev pub opposed : List ℕ → List ℕ → Bool
opposed s [] = false
opposed s (l ∷ ls) = has s (opposite l) || opposed s ls

-- a clash: the reached set holds a literal and its opposite
abbrev pub clashed : List (List ℕ) → ℕ → List ℕ → Bool
clashed cs n ds = let s = reached_set cs n ds in opposed s s

-- the mark of the value v by a set of literals
abbrev pub mark_of : List ℕ → ℕ → Mark
mark_of s v = cond (has s (is_in v)) In (cond (has s (is_out v)) Out Open)

-- the mark of the value v under decisions
abbrev pub mark : List (List ℕ) → ℕ → List ℕ → ℕ → Mark
mark cs n ds v = mark_of (reached_set cs n ds) v
