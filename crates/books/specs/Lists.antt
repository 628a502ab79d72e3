-- What vectors of numbers say.
use Rattle.std.specs.Prelude.{ℕ, List, map, vec_items, Vec}
use Rattle.std.specs.declared.alloc.Global.{Global}

-- the lists that vectors hold, in order: of a list of clauses in memory, the literals of each clause
abbrev pub lists_of : List (Vec ℕ Global) → List (List ℕ)
lists_of vs = map vec_items vs
