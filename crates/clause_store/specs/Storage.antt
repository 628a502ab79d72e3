-- The clauses in one row of literals, and a literal's holders in one row of numbers.
use Rattle.std.specs.Prelude.{ℕ, List, slice_index, slice_range, vec_items}
use Rattle.clause_store.specs.declared.flat.FlatClauses.{FlatClauses}
use Rattle.clause_store.specs.declared.holders.Holders.{Holders}
use Rattle.clause_store.specs.Parts.{parts_of}

-- the clauses, in order
abbrev pub flat_of : FlatClauses → List (List ℕ)
flat_of f = parts_of (vec_items f.literals) (vec_items f.starts)

-- the numbers of the clauses that are there for the literal l: none where there is no such literal
abbrev pub held_of : Holders → ℕ → List ℕ
held_of h l = slice_range (vec_items h.row) (slice_index (vec_items h.starts) l) (slice_index (vec_items h.ends) l)
