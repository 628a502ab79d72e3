use Rattle.std.proofs.Common.{[], ◌∷◌, ◌++◌, sym, subst}
use Rattle.std.proofs.lemmas.List.{append-nil, append_assoc}
use Rattle.network.specs.Points.{points_of}
use Rattle.calls.specs.Runs.{Right}
use Rattle.calls.proofs.Running.{exact_none, exact_push}
use Rattle.session.specs.Sessions.{state_of}
use Rattle.runs.proofs.Running.{kept, after}
use Rattle.runs.proofs.playing.play.Goals as goal

pub loop-call-init : goal.loop-call-init
loop-call-init g c =
    λ xs h. (
      [],
      subst (g.C.Caller.heard c.args.caller.now) (sym (append-nil xs)) h,
      c.in_ok-open.ensures.answer.1,
      exact_none (points_of c.args.points.now) (g.B.ClauseBook.clauses c.args.book.now),
    )

pub loop-call-preserved : goal.loop-call-preserved
loop-call-preserved g c =
    λ xs h.
    let ps = points_of c.args.points.now in
    let cs = g.B.ClauseBook.clauses c.args.book.now in
    let r = c.loop-call.invariant xs h in
    let x = c.perform-exchange.result in
    let asked = subst (g.C.Caller.asking c.next.new.self (xs ++ r.0)) (sym c.perform-exchange.ensures.call) (c.in-Some.ensures.told (xs ++ r.0) r.1) in (
      r.0 ++ x ∷ [],
      subst (g.C.Caller.heard c.answered.new.self) (append_assoc xs r.0 (x ∷ [])) (c.answered.ensures.told (xs ++ r.0) asked),
      after (state_of c.loop-call.session) (state_of c.perform-exchange.new.self) ps cs r.0 x r.2 c.perform-exchange.ensures.state,
      exact_push ps cs r.0 x r.3 (subst (λ s. Right s x) r.2 c.perform-exchange.ensures.answer),
    )

pub returns-clause-promise : goal.returns-clause-promise
returns-clause-promise g c =
    λ xs h.
    let r = c.loop-call.invariant xs h in (
      r.0,
      c.in_default.ensures.told (xs ++ r.0) r.1,
      kept c.loop-call.session (points_of c.args.points.now) (g.B.ClauseBook.clauses c.args.book.now) r.0 r.2 r.3,
    )
