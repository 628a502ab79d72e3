use Rattle.std.proofs.Common.{◌≡◌, ℕ, ◌+◌, ◌*◌, ◌<◌, length, get_or, take, drop, vec_items, vec_len}
use Rattle.books.specs.Stored.{row}
use Rattle.clause_store.specs.Storage.{flat_of, held_of}
use Rattle.clause_store.specs.Index.{Indexes, times}
use Rattle.clause_store.proofs.index.index.Given as goal

abbrev pub invariant-loop-i : goal.invariant-loop-i
invariant-loop-i l = record {
  wide : vec_len l.holders.ends ≡ 2 * l.values;
  exact : Indexes (take l.i (flat_of l.clauses)) (held_of l.holders);
  room : (m : ℕ) → m < 2 * l.values → get_or (vec_items l.holders.ends) m 0 + times (row (drop l.i (flat_of l.clauses))) m ≡ get_or (vec_items l.holders.starts) (m + 1) 0;
  whole : vec_len l.holders.row ≡ length (row (flat_of l.clauses));
}
