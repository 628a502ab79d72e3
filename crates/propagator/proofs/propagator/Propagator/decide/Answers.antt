use Rattle.std.proofs.Common.{◌≡◌, ◌/◌, [], ◌∷◌, ◌++◌, length, vec_items, sym, ap, ◌∙◌, subst, subst₂, arith}
use Rattle.std.proofs.lemmas.List.{map_push}
use Rattle.clause_store.specs.Contents.{clauses_of}
use Rattle.clause_store.proofs.Clauses.{clauses_within}
use Rattle.trail.specs.Parts.{literals_of}
use Rattle.trail.proofs.Truths.{open_mark}
use Rattle.propagation.specs.Queue.{Done}
use Rattle.propagation.proofs.Exactness.{done_pushed}
use Rattle.propagation.proofs.Outcomes.{is_err_outcome, on_no_err}
use Rattle.propagator.specs.declared.propagator.decision.Decision.{Decision}
use Rattle.propagator.specs.Decisions.{literals_in, heights_in}
use Rattle.propagator.specs.Standing.{Standing}
use Rattle.theory.specs.declared.Mark.TheVariants.{Open}
use Rattle.propagator.specs.States.{state_of}
use Rattle.propagator.proofs.Standings.{standing_decide}
use Rattle.propagator.proofs.Deciding.{same_reached_decided, same_clash_decided}
use Rattle.propagator.proofs.Invariant.{known, decided, heights, standing_of, same_many, holds_of, mark_of_lem, room}
use Rattle.propagator.proofs.propagator.Propagator.decide.Goals as goal

pub push_reserved-requires : goal.push_reserved-requires
push_reserved-requires c = omega (arith, room c.args.self.now (c.args.literal / 2) c.requires, c.args.self.now.roomy)

pub push-requires-clause-fresh : goal.push-requires-clause-fresh
push-requires-clause-fresh c =
    let s = c.args.self.now in
    let l = c.args.literal in
    let k = known (state_of s) (c.args.literal / 2) Open c.requires in
    open_mark (literals_of s.trail) l (mark_of_lem s k.0 (l / 2) ∙ k.2)

pub propagate-requires-clause-ready : goal.propagate-requires-clause-ready
propagate-requires-clause-ready c = λ cl k.
    let s = c.args.self.now in
    let u = literals_of c.push.new.self in
    subst (λ x. Done u x cl) (sym c.len-height.ensures)
    (done_pushed s.store.values (clauses_of s.store) (clauses_within s.store) (decided s) (literals_of s.trail) (holds_of s (known (state_of s) (c.args.literal / 2) Open c.requires).0) u c.args.literal c.push.ensures.literals cl k)

pub invariant_of-self : goal.invariant_of-self
invariant_of-self c =
    let s = c.args.self.now in
    let n = s.store.values in
    let cs = clauses_of s.store in
    let ds = decided s in
    let t = literals_of s.trail in
    let l = c.args.literal in
    let h = c.len-height.result in
    let u = literals_of c.push.new.self in
    let w = literals_of c.propagate.new.trail in
    let r = c.propagate.result in
    let q = c.push.ensures.literals in
    let g = c.propagate.ensures.grew in
    let f = known (state_of s) (c.args.literal / 2) Open c.requires in
    let x = holds_of s f.0 in
    let b = c.is_err-self.result in
    let e = c.is_err-self.ensures.value in
    let k = standing_decide n cs t ds (heights s) s.clashed (standing_of s) (same_many s) u w g.more l b q g.is (omega (arith, f.1)) x
    (λ z m. on_no_err r c.propagate.ensures.exact (sym e ∙ z) m ∙ same_reached_decided n cs (clauses_within s.store) ds t u l x q m)
    (e ∙ is_err_outcome r _ c.propagate.ensures.answer ∙ same_clash_decided n cs (clauses_within s.store) ds t u l x q) in
    let d : Decision = record { literal = l; height = h } in
    let items = c.push_reserved.ensures.items in
    let more : literals_in (vec_items c.push_reserved.new.self) ≡ ds ++ l ∷ [] = ap literals_in items ∙ map_push (λ (d : Decision). d.literal) (vec_items s.decisions) d in
    let higher : heights_in (vec_items c.push_reserved.new.self) ≡ heights s ++ length t ∷ [] =
    ap heights_in items ∙ map_push (λ (d : Decision). d.height) (vec_items s.decisions) d ∙ ap (λ y. heights s ++ y ∷ []) c.len-height.ensures in
    record {
      sized = s.sized ∙ sym (c.propagate.ensures.many ∙ c.push.ensures.values);
      roomy = omega (arith, s.roomy, c.push_reserved.ensures.capacity);
      ok = ∣ subst₂ (λ ds hs. Standing n cs w ds hs b) (sym more) (sym higher) k ∣₁;
    }
