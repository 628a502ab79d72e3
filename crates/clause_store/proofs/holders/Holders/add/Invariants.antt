use Rattle.std.proofs.Common.{◌≡◌, ℕ, ◌+◌, ◌<◌, ◌++◌, get_or, take, vec_items, vec_len}
use Rattle.clause_store.specs.Index.{named, times}
use Rattle.clause_store.specs.Storage.{held_of}
use Rattle.clause_store.proofs.holders.Holders.add.Given as goal

abbrev pub invariant-loop-literal : goal.invariant-loop-literal
invariant-loop-literal l = record {
  once : (m : ℕ) → held_of l.self m ≡ held_of l.initial.self m ++ named (take l.literal-index l.clause) m l.i;
  ends : (m : ℕ) → m < vec_len l.initial.self.ends → get_or (vec_items l.self.ends) m 0 ≡ get_or (vec_items l.initial.self.ends) m 0 + times (take l.literal-index l.clause) m;
  many : vec_len l.self.ends ≡ vec_len l.initial.self.ends;
  starts : l.self.starts ≡ l.initial.self.starts;
  row : vec_len l.self.row ≡ vec_len l.initial.self.row;
}
