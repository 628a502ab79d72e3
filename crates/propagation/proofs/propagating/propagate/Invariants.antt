use Rattle.std.proofs.Common.{◌≡◌, ◌-◌, ◌≤◌, List, ℕ, length}
use Rattle.theory.specs.Lists.{◌∈◌}
use Rattle.clause_store.specs.Contents.{clauses_of}
use Rattle.trail.specs.Parts.{literals_of, values_of}
use Rattle.propagation.specs.Queue.{Grew, Done}
use Rattle.propagation.proofs.propagating.propagate.Given as goal

abbrev pub invariant-loop-next : goal.invariant-loop-next
invariant-loop-next l = record {
  many : values_of l.trail ≡ values_of l.initial.trail;
  grew : Grew (clauses_of l.store) (literals_of l.initial.trail) (literals_of l.trail);
  within : l.next ≤ length (literals_of l.trail);
  done : (c : List ℕ) → c ∈ clauses_of l.store → Done (literals_of l.trail) l.next c;
}

abbrev pub decreases-loop-next : goal.decreases-loop-next
decreases-loop-next l = values_of l.initial.trail - l.next
