use Rattle.std.proofs.Common.{◌≡◌, ◌++◌, take, drop, vec_items, vec_len, vec_capacity}
use Rattle.trail.specs.Marked.{Marked}
use Rattle.trail.proofs.trail.Trail.cut.Given as goal

abbrev pub invariant-loop-literal : goal.invariant-loop-literal
invariant-loop-literal l = record {
  values : vec_len l.marks ≡ vec_len l.initial.marks;
  marked : Marked (vec_capacity l.fn.self.literals) (take l.height (vec_items l.fn.self.literals) ++ drop l.literal-index l.literal-items) (vec_items l.marks);
}
