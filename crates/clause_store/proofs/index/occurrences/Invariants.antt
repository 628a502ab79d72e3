use Rattle.std.proofs.Common.{◌≡◌, ℕ, ◌*◌, ◌<◌, get_or, take, vec_items, vec_len}
use Rattle.std.specs.List.{sum_by}
use Rattle.clause_store.specs.Index.{times}
use Rattle.clause_store.proofs.index.occurrences.Given as goal

abbrev pub invariant-loop-literal : goal.invariant-loop-literal
invariant-loop-literal l = record {
  long : vec_len l.counts ≡ 2 * l.values;
  counts : (m : ℕ) → m < 2 * l.values → get_or (vec_items l.counts) m 0 ≡ times (take l.literal-index l.literals) m;
  total : sum_by (λ n. n) (vec_items l.counts) ≡ l.literal-index;
}
