use Rattle.std.proofs.Common.{◌<◌, length, get_or, sym, ap, ◌∙◌, subst, arith, below_more}
use Rattle.clause_store.specs.Contents.{clauses_of, clause_of, holding_of}
use Rattle.clause_store.proofs.Clauses.{holder_at_below, held_by}
use Rattle.trail.specs.Parts.{literals_of}
use Rattle.propagation.specs.Finds.{Still}
use Rattle.propagation.specs.Queue.{Done}
use Rattle.propagation.proofs.Queueing.{grew_step, grew_length, clash_later, done_grows}
use Rattle.propagation.proofs.Outcomes.{err_says}
use Rattle.propagation.proofs.visiting.sweep.Goals as goal

pub visit-requires-clause-within : goal.visit-requires-clause-within
visit-requires-clause-within c =
    let b = c.args.store.now in
    let l = c.args.literal in
    let e = c.holding-i-items.ensures.answer in
    let h : c.loop-i.i-index < length (holding_of b l) = omega (arith, ap length e) in
    omega (arith, holder_at_below b l c.loop-i.i-index h, ap (λ xs. get_or xs c.loop-i.i-index 0) e)

pub loop-i-preserved : goal.loop-i-preserved
loop-i-preserved c =
    let b = c.args.store.now in
    let l = c.args.literal in
    let t = literals_of c.args.trail.now in
    let u = literals_of c.loop-i.trail in
    let w = literals_of c.visit.new.trail in
    let i = c.loop-i.i-index in
    let q = ap (λ xs. get_or xs i 0) c.holding-i-items.ensures.answer in
    let g = c.visit.ensures.grew in
    record {
      many = c.visit.ensures.many ∙ c.loop-i.invariant.many;
      grew = grew_step (clauses_of b) t u w c.loop-i.invariant.grew g;
      done =
          below_more (λ k. Done w (length t) (clause_of b (get_or (holding_of b l) k 0))) i
          (λ k h. done_grows u w (clause_of b (get_or (holding_of b l) k 0)) (length t) g.more g.is (grew_length (clauses_of b) t u c.loop-i.invariant.grew) (c.loop-i.invariant.done k h))
          (λ _. subst (λ x. Still w (clause_of b x)) q c.in_ok-visit.ensures.calm);
    }

pub returns-in_err-visit-clause-grew : goal.returns-in_err-visit-clause-grew
returns-in_err-visit-clause-grew c = grew_step _ _ _ _ c.loop-i.invariant.grew c.visit.ensures.grew

pub returns-in_err-visit-clause-clash : goal.returns-in_err-visit-clause-clash
returns-in_err-visit-clause-clash c =
    err_says _ c.from_residual.result c.from_residual.ensures.1 (clash_later _ _ _ c.loop-i.invariant.grew c.in_err-visit.ensures.clash)

pub returns-clause-calm : goal.returns-clause-calm
returns-clause-calm c = λ cl h i.
    let r = held_by c.args.store.now c.args.literal cl h i in
    let k : r.0 < c.loop-i.i-index = omega (arith, r.1, ap length c.holding-i-items.ensures.answer) in
    subst (Done (literals_of c.loop-i.trail) (length (literals_of c.args.trail.now))) (sym r.2) (c.loop-i.invariant.done r.0 k)
