use Rattle.std.proofs.Common.{vec_items}
use Rattle.clause_store.proofs.Rooms.{Placed}
use Rattle.clause_store.proofs.holders.Holders.with_room.Given as goal

abbrev pub invariant-loop-count : goal.invariant-loop-count
invariant-loop-count l = Placed l.counts (vec_items l.starts) (vec_items l.ends) l.total l.count-index
