-- The stored layout: the clause count C, then the places just past each clause's last literal, then the literals.
use Rattle.std.specs.Prelude.{ℕ, zero, suc, ◌+◌, ◌-◌, ◌<◌, ◌≤◌, List, [], ◌∷◌, ◌++◌, map, length, take, drop, slice_index}
use Rattle.std.specs.List.{range_with_len}

-- the clause count C: 0 where there is no word
abbrev pub count_of : List ℕ → ℕ
count_of ws = slice_index ws 0

-- the place just past the last literal of clause i, in words from the start
abbrev pub end_of : List ℕ → ℕ → ℕ
end_of ws i = slice_index ws (1 + i)

-- the place of the first literal of clause i: behind the ends, or where the clause before it ends
abbrev pub start_of : List ℕ → ℕ → ℕ
start_of ws zero = count_of ws + 1
start_of ws (suc i) = end_of ws i

-- the literals of clause i
abbrev pub clause_of : List ℕ → ℕ → List ℕ
clause_of ws i = take (end_of ws i - start_of ws i) (drop (start_of ws i) ws)

-- the clauses that the words say
abbrev pub clauses_of : List ℕ → List (List ℕ)
clauses_of ws = map (clause_of ws) (range_with_len 0 (count_of ws))

-- the words are a stored book: there are C + 1 of them at least, and the ends begin at C + 1, do not fall, and do not pass the words
pub record IsStored (ws : List ℕ) : Type 0 where
  pub whole : count_of ws + 1 ≤ length ws
  pub rising : (i : ℕ) → i < count_of ws → start_of ws i ≤ end_of ws i
  pub inside : (i : ℕ) → i < count_of ws → end_of ws i ≤ length ws
  deriving IsProp as IsStored-prop

-- the ends of clauses whose first literal stands at the place
abbrev pub ends_from : ℕ → List (List ℕ) → List ℕ
ends_from place [] = []
ends_from place (c ∷ cs) = (place + length c) ∷ ends_from (place + length c) cs

-- the literals of clauses in one row
abbrev pub row : List (List ℕ) → List ℕ
row [] = []
row (c ∷ cs) = c ++ row cs

-- the words that store clauses: how many there are, where each ends, and their literals
abbrev pub stored_form : List (List ℕ) → List ℕ
stored_form cs = length cs ∷ (ends_from (length cs + 1) cs ++ row cs)

-- how many words they are: one, one a clause, one a literal
abbrev pub words_needed : List (List ℕ) → ℕ
words_needed cs = 1 + length cs + length (row cs)
