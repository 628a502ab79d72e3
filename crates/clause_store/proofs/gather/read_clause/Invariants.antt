use Rattle.std.proofs.Common.{◌≡◌, ℕ, ◌*◌, ◌/◌, ◌<◌, [], ◌++◌, get_or, take, vec_items}
use Rattle.clause_store.proofs.gather.read_clause.Given as goal

abbrev pub invariant-loop-j : goal.invariant-loop-j
invariant-loop-j g l =
    let c = get_or (g.B.ClauseBook.clauses l.book) l.i [] in
    record {
      read : vec_items l.literals ≡ vec_items l.initial.literals ++ take l.j c;
      below : (k : ℕ) → k < l.j → get_or c k 0 < 2 * l.values;
      apart : (i k : ℕ) → i < k → k < l.j → get_or c i 0 / 2 ≡ get_or c k 0 / 2 → ⊥;
    }
