use Rattle.std.proofs.Common.{◌≡◌, ℕ, ◌+◌, ◌<◌, List, length, get_or, sym, ap, ◌∙◌, subst, arith}
use Rattle.std.proofs.lemmas.List.{get_or_append_left}
use Rattle.theory.specs.Lists.{◌∈◌}
use Rattle.theory.specs.Literals.{opposite}
use Rattle.clause_store.specs.Contents.{clauses_of}
use Rattle.clause_store.proofs.Clauses.{clauses_within}
use Rattle.trail.specs.Parts.{literals_of}
use Rattle.trail.proofs.Invariant.{trail_short, trail_apart}
use Rattle.propagation.specs.Finds.{Still}
use Rattle.propagation.specs.Outcomes.{outcome}
use Rattle.propagation.proofs.Reaching.{clash_computed}
use Rattle.propagation.proofs.Queueing.{grew_step, grew_length, clash_later, done_grows, done_later, done_next, done_all}
use Rattle.propagation.proofs.Exactness.{still_holds, apart_calm}
use Rattle.propagation.proofs.Outcomes.{err_outcome}
use Rattle.propagation.proofs.propagating.propagate.Goals as goal

pub loop-next-smaller : goal.loop-next-smaller
loop-next-smaller c =
    let s = c.loop-next.trail in
    let h : c.loop-next.next < length (literals_of s) = omega arith in
    omega (arith, trail_short s, c.loop-next.invariant.many)

pub loop-next-preserved : goal.loop-next-preserved
loop-next-preserved c =
    let b = c.args.store.now in
    let i = c.loop-next.next in
    let t = literals_of c.args.trail.now in
    let u = literals_of c.loop-next.trail in
    let w = literals_of c.sweep.new.trail in
    let g = c.sweep.ensures.grew in
    let h : i < length u = omega arith in
    let n = grew_length (clauses_of b) u w g in
    let f : get_or w i 0 ≡ get_or u i 0 = ap (λ x. get_or x i 0) g.is ∙ get_or_append_left u g.more 0 i h in
    let q : opposite (get_or w i 0) ≡ c.opposite-literal.result = ap opposite (f ∙ sym c.literal.ensures) ∙ sym c.opposite-literal.ensures in
    record {
      many = c.sweep.ensures.many ∙ c.loop-next.invariant.many;
      grew = grew_step (clauses_of b) t u w c.loop-next.invariant.grew g;
      within = omega arith;
      done =
          λ cl k. done_next w cl i (omega arith) (done_grows u w cl i g.more g.is (omega arith) (c.loop-next.invariant.done cl k))
          (λ j. done_later w cl (i + 1) (length u) (omega arith) (c.in_ok-sweep.ensures.calm cl k (subst (λ x. x ∈ cl) q j)));
    }

pub returns-in_err-sweep-clause-grew : goal.returns-in_err-sweep-clause-grew
returns-in_err-sweep-clause-grew c = grew_step _ _ _ _ c.loop-next.invariant.grew c.sweep.ensures.grew

pub returns-in_err-sweep-clause-answer : goal.returns-in_err-sweep-clause-answer
returns-in_err-sweep-clause-answer c =
    let b = c.args.store.now in
    let t = literals_of c.args.trail.now in
    let k = clash_later (clauses_of b) t (literals_of c.loop-next.trail) c.loop-next.invariant.grew c.in_err-sweep.ensures.clash in
    err_outcome _ c.from_residual.result _ c.from_residual.ensures.1 (clash_computed b.values (clauses_of b) (clauses_within b) t k)

pub returns : goal.returns
returns c =
    let b = c.args.store.now in
    let t = literals_of c.args.trail.now in
    let u = literals_of c.loop-next.trail in
    let still : (cl : List ℕ) → cl ∈ clauses_of b → Still u cl = λ cl h. done_all u cl c.loop-next.next (omega arith) (c.loop-next.invariant.done cl h) in
    let e = still_holds b.values (clauses_of b) (clauses_within b) t u c.loop-next.invariant.grew still in
    record {
      many = c.loop-next.invariant.many;
      grew = c.loop-next.invariant.grew;
      answer = sym (ap outcome (apart_calm b.values (clauses_of b) (clauses_within b) t u e (trail_apart c.loop-next.trail)));
      exact = e;
    }
