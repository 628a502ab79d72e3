use Rattle.std.proofs.Common.{[], ◌∷◌, ◌++◌, map, take, vec_items, sym, ap, ◌∙◌, subst, arith}
use Rattle.std.proofs.lemmas.List.{map_push, take_more}
use Rattle.network.specs.Points.{points_of}
use Rattle.calls.specs.Runs.{call_of, state_after, Right, Exact}
use Rattle.calls.proofs.Running.{exact_push}
use Rattle.session.specs.Sessions.{state_of}
use Rattle.runs.proofs.Running.{kept, after}
use Rattle.runs.proofs.playing.play_all.Goals as goal

pub loop-call-preserved : goal.loop-call-preserved
loop-call-preserved g c =
    let ps = points_of c.args.points.now in
    let cs = g.B.ClauseBook.clauses c.args.book.now in
    let log = vec_items c.loop-call.log in
    let x = c.perform.result in
    let calls = c.args.calls.now in
    let i = c.loop-call.call-index in
    let inv = c.loop-call.invariant in
    let more = sym c.push_reserved.ensures.items in
    record {
      calls =
          sym (ap (map call_of) more) ∙ map_push call_of log x ∙ ap (λ l. l ++ call_of x ∷ []) inv.calls ∙ ap (λ a. take i calls ++ a ∷ []) c.perform.ensures.call ∙
          sym (take_more calls i _ c.loop-call-test.true);
      state = after (state_of c.loop-call.session) (state_of c.perform.new.self) ps cs log x inv.state c.perform.ensures.state ∙ ap (state_after ps cs) more;
      exact = subst (Exact ps cs) more (exact_push ps cs log x inv.exact (subst (λ s. Right s x) inv.state c.perform.ensures.answer));
      room = omega (arith, inv.room, c.push_reserved.ensures.capacity);
    }

pub returns-clause-promise : goal.returns-clause-promise
returns-clause-promise g c =
    kept c.loop-call.session (points_of c.args.points.now) (g.B.ClauseBook.clauses c.args.book.now) (vec_items c.loop-call.log)
    c.loop-call.invariant.state c.loop-call.invariant.exact
