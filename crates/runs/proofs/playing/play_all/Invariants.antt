use Rattle.std.proofs.Common.{◌≡◌, ◌≤◌, map, length, take, vec_items, vec_capacity}
use Rattle.calls.specs.Runs.{call_of, state_after, Exact}
use Rattle.network.specs.Points.{points_of}
use Rattle.session.specs.Sessions.{state_of}
use Rattle.runs.proofs.playing.play_all.Given as goal

abbrev pub invariant-loop-call : goal.invariant-loop-call
invariant-loop-call g l =
    let ps = points_of l.points in
    let cs = g.B.ClauseBook.clauses l.book in
    record {
      calls : map call_of (vec_items l.log) ≡ take l.call-index l.calls;
      state : state_of l.session ≡ state_after ps cs (vec_items l.log);
      exact : Exact ps cs (vec_items l.log);
      room : length l.calls ≤ vec_capacity l.log;
    }
