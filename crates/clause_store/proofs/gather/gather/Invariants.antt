use Rattle.std.proofs.Common.{◌≡◌, ℕ, ◌+◌, ◌<◌, [], length, get_or, take, vec_items}
use Rattle.books.specs.Stored.{row}
use Rattle.clause_store.specs.Fitness.{FitClause}
use Rattle.clause_store.proofs.gather.gather.Given as goal

abbrev pub invariant-loop-i : goal.invariant-loop-i
invariant-loop-i g l =
    let cs = g.B.ClauseBook.clauses l.book in
    record {
      read : vec_items l.literals ≡ row (take l.i cs);
      many : length (vec_items l.starts) ≡ l.i + 1;
      says : (k : ℕ) → k < l.i + 1 → get_or (vec_items l.starts) k 0 ≡ length (row (take k cs));
      fit : (k : ℕ) → k < l.i → FitClause l.values (get_or cs k []);
    }
