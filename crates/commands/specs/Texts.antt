-- What is written in answer.
use Rattle.std.specs.Prelude.{ℕ, List, [], ◌∷◌, ◌++◌, length, Some, None, codes, decimal, Option}
use Rattle.std.specs.List.{flat_map}

-- a point and a value, or that there is none
abbrev pub place_text : Option (ℕ × ℕ) → List ℕ
place_text None = codes "none"
place_text (Some x) = decimal x.0 ++ (codes " " ++ decimal x.1)

-- a refusal's number and place
abbrev pub refused_text : ℕ → ℕ → List ℕ
refused_text n p = codes "refused " ++ (decimal n ++ (codes " at " ++ decimal p))

-- each literal after a space
abbrev pub spaced : List ℕ → List ℕ
spaced ls = flat_map (λ l. codes " " ++ decimal l) ls

-- literals one space apart
abbrev pub literals_text : List ℕ → List ℕ
literals_text [] = []
literals_text (l ∷ ls) = decimal l ++ spaced ls

-- a line for a clause
abbrev pub clause_text : List ℕ → List ℕ
clause_text c = literals_text c ++ codes "\n"

-- how many clauses there are, and then a line a clause
abbrev pub clauses_text : List (List ℕ) → List ℕ
clauses_text cs = decimal (length cs) ++ (codes "\n" ++ flat_map clause_text cs)
