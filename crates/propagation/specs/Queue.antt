-- A trail that grows by what the clauses force, and what is left to look at.
use Rattle.std.specs.Prelude.{◌≡◌, ℕ, List, ◌++◌, drop}
use Rattle.theory.specs.Lists.{◌∈◌}
use Rattle.theory.specs.Literals.{opposite}
use Rattle.propagation.specs.Reaches.{Reaches}
use Rattle.propagation.specs.Finds.{Still}

-- u is t and then more literals, and t reaches each literal of u
pub record Grew (cs : List (List ℕ)) (t u : List ℕ) : Type 0 where
  pub more : List ℕ
  pub is : u ≡ t ++ more
  pub sound : (l : ℕ) → l ∈ u → Reaches cs t l

-- the clause c forces nothing more, unless a literal of t from the place h on is the opposite of one of its own
abbrev pub Done : List ℕ → ℕ → List ℕ → Type 0
Done t h c = ((x : ℕ) → x ∈ drop h t → opposite x ∈ c → ⊥) → Still t c
