use Rattle.std.proofs.Common.{◌≡◌, ℕ, ◌<◌, length, get_or}
use Rattle.clause_store.specs.Contents.{clauses_of, clause_of, holding_of}
use Rattle.trail.specs.Parts.{literals_of, values_of}
use Rattle.propagation.specs.Queue.{Grew, Done}
use Rattle.propagation.proofs.visiting.sweep.Given as goal

abbrev pub invariant-loop-i : goal.invariant-loop-i
invariant-loop-i l =
    let b = l.store in
    let t = literals_of l.initial.trail in
    record {
      many : values_of l.trail ≡ values_of l.initial.trail;
      grew : Grew (clauses_of b) t (literals_of l.trail);
      done : (k : ℕ) → k < l.i-index → Done (literals_of l.trail) (length t) (clause_of b (get_or (holding_of b l.fn.literal) k 0));
    }
