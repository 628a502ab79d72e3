-- Literals, clauses and models. A clause is a list of literals.
use Rattle.std.specs.Prelude.{◌≡◌, ℕ, ◌+◌, ◌-◌, ◌*◌, ◌/◌, ◌%◌, ◌<◌, Bool, true, false, cond, not, List, length, ◌==◌, slice_index_or}
use Rattle.theory.specs.Lists.{◌∈◌}

-- the literal that the value n is in
abbrev pub is_in : ℕ → ℕ
is_in n = 2 * n

-- the literal that the value n is out
abbrev pub is_out : ℕ → ℕ
is_out n = 2 * n + 1

-- the literal that says the contrary: 2n of 2n + 1, and 2n + 1 of 2n
abbrev pub opposite : ℕ → ℕ
opposite l = l + 1 - 2 * (l % 2)

-- whether a literal holds in a marking, which says of each value whether it is in
abbrev pub holds : List Bool → ℕ → Bool
holds m l = cond (l % 2 == 0) (slice_index_or m (l / 2) false) (not (slice_index_or m (l / 2) false))

-- a clause is met when one of its literals holds
abbrev pub Met : List Bool → List ℕ → Type 0
Met m c = (l : ℕ) × (l ∈ c) × (holds m l ≡ true)

-- a model marks each of n values in or out and meets every clause
pub record Model (n : ℕ) (cs : List (List ℕ)) (m : List Bool) : Type 0 where
  pub marked : length m ≡ n
  pub meets : (c : List ℕ) → c ∈ cs → Met m c

-- each literal of the clauses is one of n values
abbrev pub Within : ℕ → List (List ℕ) → Type 0
Within n cs = (c : List ℕ) → c ∈ cs → (l : ℕ) → l ∈ c → l < 2 * n

-- each clause has a literal
abbrev pub NoneEmpty : List (List ℕ) → Type 0
NoneEmpty cs = (c : List ℕ) → c ∈ cs → (l : ℕ) × (l ∈ c)
