-- Runs of a session's calls.
use Rattle.std.proofs.Common.{◌≡◌, ℕ, List, [], ◌∷◌, ◌++◌, sym, ap, ◌∙◌, subst}
use Rattle.theory.specs.Literals.{Within, NoneEmpty}
use Rattle.theory.specs.Numbering.{total}
use Rattle.network.specs.Points.{Entry, values_of}
use Rattle.clause_store.proofs.Clauses.{clauses_within, clauses_none_empty}
use Rattle.calls.specs.declared.call.Exchange.{Exchange}
use Rattle.calls.specs.States.{State, counts_of, under}
use Rattle.calls.specs.Runs.{stands_after, state_after, Exact}
use Rattle.calls.specs.Promise.{Promise}
use Rattle.calls.proofs.Promises.{promise_of}
use Rattle.calls.proofs.Running.{standing_push}
use Rattle.session.specs.declared.session.Session.{Session}
use Rattle.session.specs.Sessions.{state_of}

-- what a session that was opened and made a right run of calls promises
pub kept : (s : Session) (ps : List Entry) (cs : List (List ℕ)) (ys : List Exchange) → state_of s ≡ state_after ps cs ys → Exact ps cs ys → Promise ps cs ys
kept s ps cs ys e f =
    let within = subst (λ n. Within n (state_of s).clauses) (sym s.sized) (clauses_within s.inner.store) in
    promise_of ps cs ys (subst (λ (t : State). Within (total (counts_of t)) t.clauses) e within)
    (subst (λ (t : State). NoneEmpty t.clauses) e (clauses_none_empty s.inner.store)) f

-- the session after one call more
pub after : (s t : State) (ps : List Entry) (cs : List (List ℕ)) (ys : List Exchange) (x : Exchange) →
    s ≡ state_after ps cs ys → t ≡ under s (stands_after (counts_of s) s.decisions x) → t ≡ state_after ps cs (ys ++ x ∷ [])
after s t ps cs ys x e f =
    f ∙ ap (λ (u : State). under u (stands_after (counts_of u) u.decisions x)) e ∙
    ap (under (state_after ps cs ys)) (sym (standing_push (values_of ps) [] ys x))
