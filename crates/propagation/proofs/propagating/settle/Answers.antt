use Rattle.std.proofs.Common.{[], ap, ◌∙◌, subst}
use Rattle.std.proofs.lemmas.Result.{on_ok_weaker}
use Rattle.clause_store.specs.Contents.{clauses_of}
use Rattle.clause_store.proofs.Clauses.{clauses_within}
use Rattle.trail.specs.Parts.{literals_of}
use Rattle.propagation.specs.Reaches.{Clash}
use Rattle.propagation.specs.Queue.{Grew}
use Rattle.propagation.specs.Outcomes.{outcome}
use Rattle.propagation.proofs.Reaching.{clash_computed, same_reached, same_clash}
use Rattle.propagation.proofs.Queueing.{grew_step, grew_back}
use Rattle.propagation.proofs.Outcomes.{err_outcome}
use Rattle.propagation.proofs.propagating.settle.Goals as goal

pub returns-in_err-visit_all-clause-answer : goal.returns-in_err-visit_all-clause-answer
returns-in_err-visit_all-clause-answer c =
    let b = c.args.store.now in
    let k = subst (Clash (clauses_of b)) c.requires.bare c.in_err-visit_all.ensures.clash in
    err_outcome _ c.from_residual.result _ c.from_residual.ensures.1 (clash_computed b.values (clauses_of b) (clauses_within b) [] k)

pub returns : goal.returns
returns c =
    let b = c.args.store.now in
    let cs = clauses_of b in
    let u = literals_of c.visit_all.new.trail in
    let w = literals_of c.propagate.new.trail in
    let g : Grew cs [] u = subst (λ t. Grew cs t u) c.requires.bare c.visit_all.ensures.grew in
    record {
      many = c.propagate.ensures.many ∙ c.visit_all.ensures.many;
      grew = grew_step cs [] u w g c.propagate.ensures.grew;
      answer = c.propagate.ensures.answer ∙ ap outcome (same_clash b.values cs (clauses_within b) u [] g.sound (grew_back cs [] u g));
      exact = on_ok_weaker c.propagate.result (λ e l. e l ∙ same_reached b.values cs (clauses_within b) u [] g.sound (grew_back cs [] u g) l) c.propagate.ensures.exact;
    }
