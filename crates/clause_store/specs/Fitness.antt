-- Which lists of clauses a store takes.
use Rattle.std.specs.Prelude.{◌≡◌, ℕ, ◌*◌, ◌/◌, ◌<◌, ◌≤◌, List, [], length, ◌≢◌, slice_index, slice_index_or}

-- the most clauses of a list
abbrev pub most_clauses : ℕ
most_clauses = 100000

-- the most literals of a clause
abbrev pub most_literals : ℕ
most_literals = 64

-- a literal of the list is of the value v
abbrev pub NamesValue : List ℕ → ℕ → Type 0
NamesValue c v = (k : ℕ) × (k < length c) × (slice_index c k / 2 ≡ v)

-- a clause is fit for n values when it has 1 to 64 literals, each of one of the values, and no value twice
pub record FitClause (n : ℕ) (c : List ℕ) : Type 0 where
  pub some : 0 < length c
  pub short : length c ≤ most_literals
  pub below : (k : ℕ) → k < length c → slice_index c k < 2 * n
  pub apart : (j k : ℕ) → j < k → k < length c → slice_index c j / 2 ≢ slice_index c k / 2

-- a list of clauses is fit for n values when it has at most 100,000 clauses, each of them fit
pub record Fit (n : ℕ) (cs : List (List ℕ)) : Type 0 where
  pub few : length cs ≤ most_clauses
  pub each : (i : ℕ) → i < length cs → FitClause n (slice_index_or cs i [])
