use Rattle.std.proofs.Common.{sym, ◌∙◌, subst, arith, below_more}
use Rattle.clause_store.specs.Contents.{clauses_of, clause_of}
use Rattle.clause_store.proofs.Clauses.{in_clauses}
use Rattle.trail.specs.Parts.{literals_of}
use Rattle.propagation.specs.Queue.{Done}
use Rattle.propagation.proofs.Queueing.{grew_step, clash_later, done_grows}
use Rattle.propagation.proofs.Outcomes.{err_says}
use Rattle.propagation.proofs.visiting.visit_all.Goals as goal

pub loop-i-preserved : goal.loop-i-preserved
loop-i-preserved c =
    let b = c.args.store.now in
    let t = literals_of c.args.trail.now in
    let u = literals_of c.loop-i.trail in
    let w = literals_of c.visit.new.trail in
    let g = c.visit.ensures.grew in
    record {
      many = c.visit.ensures.many ∙ c.loop-i.invariant.many;
      grew = grew_step (clauses_of b) t u w c.loop-i.invariant.grew g;
      done =
          below_more (λ k. Done w 0 (clause_of b k)) c.loop-i.i
          (λ k h. done_grows u w (clause_of b k) 0 g.more g.is (omega arith) (c.loop-i.invariant.done k h))
          (λ _. c.in_ok-visit.ensures.calm);
    }

pub returns-in_err-visit-clause-grew : goal.returns-in_err-visit-clause-grew
returns-in_err-visit-clause-grew c = grew_step _ _ _ _ c.loop-i.invariant.grew c.visit.ensures.grew

pub returns-in_err-visit-clause-clash : goal.returns-in_err-visit-clause-clash
returns-in_err-visit-clause-clash c =
    err_says _ c.from_residual.result c.from_residual.ensures.1 (clash_later _ _ _ c.loop-i.invariant.grew c.in_err-visit.ensures.clash)

pub returns-clause-calm : goal.returns-clause-calm
returns-clause-calm c = λ cl h.
    let r = in_clauses c.args.store.now cl h in subst (Done (literals_of c.loop-i.trail) 0) (sym r.2) (c.loop-i.invariant.done r.0 (omega (arith, r.1)))
