-- What a list of literals reaches over clauses.
use Rattle.std.specs.Prelude.{◌≡◌, ℕ, Bool, true, List}
use Rattle.theory.specs.Lists.{has}
use Rattle.theory.specs.Literals.{opposite}
use Rattle.theory.specs.Reached.{HoldsAll, Closed, reached_set}

-- t reaches the literal l: each set that holds t and is closed under the clauses holds l
abbrev pub Reaches : List (List ℕ) → List ℕ → ℕ → Type 0
Reaches cs t l = (T : ℕ → Bool) → HoldsAll t T → Closed cs T → T l ≡ true

-- t reaches a literal and its opposite
abbrev pub Clash : List (List ℕ) → List ℕ → Type 0
Clash cs t = (l : ℕ) × Reaches cs t l × Reaches cs t (opposite l)

-- u holds the reached set of t over clauses of n values, and no more
abbrev pub HoldsReached : List (List ℕ) → ℕ → List ℕ → List ℕ → Type 0
HoldsReached cs n t u = (l : ℕ) → has u l ≡ has (reached_set cs n t) l
