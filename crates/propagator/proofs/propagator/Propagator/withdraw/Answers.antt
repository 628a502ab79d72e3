use Rattle.std.proofs.Common.{ap, ◌++◌, refl, sym, ◌∙◌, arith, take, vec_items}
use Rattle.std.specs.Option.{option_to_list}
use Rattle.clause_store.specs.Contents.{clauses_of}
use Rattle.clause_store.proofs.Clauses.{clauses_within}
use Rattle.trail.specs.Parts.{literals_of}
use Rattle.trail.proofs.Invariant.{trail_apart}
use Rattle.propagation.proofs.Exactness.{apart_calm}
use Rattle.propagator.specs.Decisions.{literals_in}
use Rattle.propagator.proofs.Standings.{back_within, back_holds, standing_back}
use Rattle.propagator.proofs.Invariant.{same_many, standing_of, decided_less, heights_less}
use Rattle.propagator.proofs.propagator.Propagator.withdraw.Goals as goal

pub cut-requires : goal.cut-requires
cut-requires c =
    let s = c.args.self.now in
    let d = c.unwrap-height.result in
    let items = c.pop.ensures.items ∙ ap (λ o. vec_items c.pop.new.self ++ option_to_list o) c.unwrap-height.ensures in
    omega (arith, back_within _ _ _ _ _ _ (standing_of s) (same_many s) _ _ (take d.height (literals_of s.trail)) d.height (heights_less s _ d items) (decided_less s _ c.pop.ensures.rest) refl)

pub invariant_of-self : goal.invariant_of-self
invariant_of-self c =
    let s = c.args.self.now in
    let d = c.unwrap-height.result in
    let items = c.pop.ensures.items ∙ ap (λ o. vec_items c.pop.new.self ++ option_to_list o) c.unwrap-height.ensures in
    let ds = literals_in (vec_items c.pop.new.self) in
    let u = c.cut.new.self in
    let h = back_holds _ _ _ _ _ _ (standing_of s) (same_many s) _ _ _ d.height (heights_less s _ d items) (decided_less s _ c.pop.ensures.rest) c.cut.ensures.literals in
    let e = apart_calm s.store.values (clauses_of s.store) (clauses_within s.store) ds (literals_of u) h (trail_apart u) in
    record {
      sized = s.sized ∙ sym c.cut.ensures.values;
      roomy = omega (arith, s.roomy, c.pop.ensures.capacity);
      ok = ∣ standing_back _ _ _ _ _ _ (standing_of s) (same_many s) _ _ _ d.height (heights_less s _ d items) (decided_less s _ c.pop.ensures.rest) c.cut.ensures.literals e ∣₁;
    }
