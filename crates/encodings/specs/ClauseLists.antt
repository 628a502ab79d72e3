-- What a list of clauses in memory says.
use Rattle.std.specs.Prelude.{ℕ, List, map, vec_items, Vec}
use Rattle.std.specs.declared.alloc.Global.{Global}

-- the literals of each clause, in order
abbrev pub clauses_of : Vec (Vec ℕ Global) Global → List (List ℕ)
clauses_of v = map vec_items (vec_items v)
