use Rattle.runs.proofs.playing.play.Given as goal
use Rattle.std.proofs.Common.{◌≡◌, List, ◌++◌}
use Rattle.calls.specs.declared.call.Exchange.{Exchange}
use Rattle.calls.specs.Runs.{state_after, Exact}
use Rattle.network.specs.Points.{points_of}
use Rattle.session.specs.Sessions.{state_of}

abbrev pub invariant-loop-call : goal.invariant-loop-call
invariant-loop-call g l =
    (xs : List Exchange) → g.C.Caller.heard l.initial.caller xs →
    (ys : List Exchange) × g.C.Caller.heard l.caller (xs ++ ys) ×
    (state_of l.session ≡ state_after (points_of l.points) (g.B.ClauseBook.clauses l.book) ys) ×
    Exact (points_of l.points) (g.B.ClauseBook.clauses l.book) ys

abbrev pub decreases-loop-call : goal.decreases-loop-call
decreases-loop-call g l = g.C.Caller.left l.caller
