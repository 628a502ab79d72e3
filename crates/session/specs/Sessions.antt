-- What a session stands on, and what opening leaves.
use Rattle.std.specs.Prelude.{◌≡◌, ℕ, List, [], map, Ok, Err, vec_items, Result}
use Rattle.theory.specs.declared.Mark.{Mark}
use Rattle.theory.specs.Numbering.{total, values}
use Rattle.network.specs.Points.{Entry, entries, values_of}
use Rattle.clause_store.specs.declared.error.OpenError.{OpenError}
use Rattle.clause_store.specs.declared.error.OpenError.TheVariants.{Unfit, OutOfMemory}
use Rattle.clause_store.specs.Fitness.{Fit}
use Rattle.propagator.specs.States.{state_of as inner_of}
use Rattle.calls.specs.declared.refusal.CallRefusal.{CallRefusal}
use Rattle.calls.specs.States.{State, counts_of, is_clashed, mark_at, has_point}
use Rattle.calls.specs.Replies.{checked}
use Rattle.session.specs.declared.session.Session.{Session}

-- the points, the clauses and the standing decisions of a session
abbrev pub state_of : Session → State
state_of s = record { points = entries (vec_items s.points); clauses = (inner_of s.inner).clauses; decisions = (inner_of s.inner).decisions }

-- opening over points and clauses succeeds only if the clauses are fit, and the session then stands on them with no decision;
-- it is refused as unfit only if they are not
abbrev pub Opens : List Entry → List (List ℕ) → State → Result (Unit {0}) OpenError → Type 0
Opens ps cs s (Ok _) = Fit (total (values_of ps)) cs × (s ≡ record { points = ps; clauses = cs; decisions = [] })
Opens ps cs s (Err Unfit) = Fit (total (values_of ps)) cs → ⊥
Opens ps cs s (Err OutOfMemory) = Unit {0}

-- the marks of the values of the point p, in order
abbrev pub marks_of : State → ℕ → List Mark
marks_of s p = map (mark_at s p) (values (counts_of s) p)

-- the answer to the question for the marks of a point's values
abbrev pub marks_reply : State → ℕ → Result (List Mark) CallRefusal
marks_reply s p = checked (has_point s p) (is_clashed s) (Ok (marks_of s p))
