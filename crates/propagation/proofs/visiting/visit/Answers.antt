use Rattle.std.proofs.Common.{Some, None, Ok, subst, subst₂, arith}
use Rattle.theory.specs.Lists.{◌∈◌}
use Rattle.clause_store.specs.Contents.{clauses_of, clause_of}
use Rattle.clause_store.proofs.Clauses.{clause_below, clause_in, clause_some}
use Rattle.trail.specs.Parts.{literals_of}
use Rattle.trail.proofs.Invariant.{trail_apart}
use Rattle.propagation.specs.Finds.{Only, Still, Finds}
use Rattle.propagation.proofs.Queueing.{grew_push, clash_refuted, still_push}
use Rattle.propagation.proofs.Outcomes.{err_says}
use Rattle.propagation.proofs.visiting.visit.Goals as goal

pub returns-in_err-literal-clause-clash : goal.returns-in_err-literal-clause-clash
returns-in_err-literal-clause-clash c =
    let b = c.args.store.now in
    let t = literals_of c.args.trail.now in
    let cl = clause_of b c.args.i in
    let k : Only t cl None = subst (λ x. Only t x None) c.clause.ensures c.in_err-literal.ensures in
    let w = clause_some b c.args.i c.requires.within in
    err_says _ c.from_residual.result c.from_residual.ensures.1 (clash_refuted (clauses_of b) t cl w.0 (clause_in b c.args.i c.requires.within) w.1 k)

pub push-requires-clause-within : goal.push-requires-clause-within
push-requires-clause-within c =
    let b = c.args.store.now in
    let t = literals_of c.args.trail.now in
    let l = c.in-Some.literal in
    let k : Only t c.clause.result.now (Some l) = subst (λ o. Finds t c.clause.result.now (Ok o)) c.in-Some.is c.in_ok-literal.ensures in
    omega (arith, clause_below b c.args.i l (subst (λ y. l ∈ y) c.clause.ensures k.0), c.requires.sized)

pub returns-in-Some-clause-grew : goal.returns-in-Some-clause-grew
returns-in-Some-clause-grew c =
    let b = c.args.store.now in
    let t = literals_of c.args.trail.now in
    let l = c.in-Some.literal in
    let k : Only t (clause_of b c.args.i) (Some l) = subst₂ (λ x o. Finds t x (Ok o)) c.clause.ensures c.in-Some.is c.in_ok-literal.ensures in
    grew_push (clauses_of b) t (literals_of c.push.new.self) (clause_of b c.args.i) l c.push.ensures.literals (clause_in b c.args.i c.requires.within) k

pub returns-in-Some-clause-calm : goal.returns-in-Some-clause-calm
returns-in-Some-clause-calm c =
    let b = c.args.store.now in
    let t = literals_of c.args.trail.now in
    let s = c.push.new.self in
    let l = c.in-Some.literal in
    let k : Only t (clause_of b c.args.i) (Some l) = subst₂ (λ x o. Finds t x (Ok o)) c.clause.ensures c.in-Some.is c.in_ok-literal.ensures in
    still_push t (literals_of s) (clause_of b c.args.i) l c.push.ensures.literals k (trail_apart s)

pub returns-in_default-clause-calm : goal.returns-in_default-clause-calm
returns-in_default-clause-calm c =
    let t = literals_of c.args.trail.now in
    let k : Still t c.clause.result.now = subst (λ o. Finds t c.clause.result.now (Ok o)) c.in_default.is c.in_ok-literal.ensures in
    subst (Still t) c.clause.ensures k
