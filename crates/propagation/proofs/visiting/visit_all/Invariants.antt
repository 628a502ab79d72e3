use Rattle.std.proofs.Common.{◌≡◌, ℕ, ◌<◌}
use Rattle.clause_store.specs.Contents.{clauses_of, clause_of}
use Rattle.trail.specs.Parts.{literals_of, values_of}
use Rattle.propagation.specs.Queue.{Grew, Done}
use Rattle.propagation.proofs.visiting.visit_all.Given as goal

abbrev pub invariant-loop-i : goal.invariant-loop-i
invariant-loop-i l = record {
  many : values_of l.trail ≡ values_of l.initial.trail;
  grew : Grew (clauses_of l.store) (literals_of l.initial.trail) (literals_of l.trail);
  done : (k : ℕ) → k < l.i → Done (literals_of l.trail) 0 (clause_of l.store k);
}
