-- The clauses of a store, and the clauses that hold a literal.
use Rattle.std.specs.Prelude.{ℕ, List, [], slice_index_or}
use Rattle.clause_store.specs.declared.store.ClauseStore.{ClauseStore}
use Rattle.clause_store.specs.Storage.{flat_of, held_of}

-- the clauses, in order
abbrev pub clauses_of : ClauseStore → List (List ℕ)
clauses_of s = flat_of s.clauses

-- clause i
abbrev pub clause_of : ClauseStore → ℕ → List ℕ
clause_of s i = slice_index_or (clauses_of s) i []

-- the numbers of the clauses that the index has for the literal l
abbrev pub holding_of : ClauseStore → ℕ → List ℕ
holding_of s l = held_of s.holders l
