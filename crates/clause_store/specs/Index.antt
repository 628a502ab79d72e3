-- Lists of clauses in memory, and an index of them.
use Rattle.std.specs.Prelude.{◌≡◌, ℕ, ◌<◌, List, [], map, length, filter, slice_index_or, ◌==◌}
use Rattle.std.specs.List.{count_by}
use Rattle.theory.specs.Lists.{has}

-- each clause has a literal
abbrev pub NoneBare : List (List ℕ) → Type 0
NoneBare cs = (i : ℕ) → i < length cs → 0 < length (slice_index_or cs i [])

-- for each literal, the holders name exactly the clauses that hold it, by their numbers
abbrev pub Indexes : List (List ℕ) → (ℕ → List ℕ) → Type 0
Indexes cs held = (l i : ℕ) → has (held l) i ≡ has (slice_index_or cs i []) l

-- the number i, once for each place at which the clause holds the literal l
abbrev pub named : List ℕ → ℕ → ℕ → List ℕ
named c l i = map (λ _. i) (filter (λ m. m == l) c)

-- how many places of a list hold the literal l
abbrev pub times : List ℕ → ℕ → ℕ
times c l = count_by (λ m. m == l) c
