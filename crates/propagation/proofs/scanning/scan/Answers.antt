use Rattle.std.proofs.Common.{◌≡◌, ℕ, [], ◌∷◌, ◌++◌, take, true, false, Some, None, Option, MatchOption, refl, sym, ap, ◌∙◌, subst, subst₂, rules}
use Rattle.std.proofs.lemmas.Bool.{true≢false}
use Rattle.trail.specs.Truths.{truth_of}
use Rattle.std.proofs.lemmas.List.{get_or_read, take_more, take_all}
use Rattle.theory.specs.Lists.{◌∈◌}
use Rattle.theory.proofs.Members.{in_at}
use Rattle.clause_store.proofs.Rows.{in_take}
use Rattle.trail.specs.Parts.{literals_of}
use Rattle.trail.proofs.Truths.{in_true, in_false}
use Rattle.trail.proofs.Invariant.{trail_apart}
use Rattle.propagation.specs.Finds.{Only}
use Rattle.propagation.proofs.Clauses.{only_false, only_open, still_true, still_open}
use Rattle.propagation.proofs.scanning.scan.Goals as goal
use Rattle.propagation.proofs.scanning.scan.Goals.{in-Some-false, in-None-2}

-- a literal other than x was open
open_other : (x : ℕ) (o : Option ℕ) {P : ℕ → Type 0} → ((y : ℕ) → P y → y ≡ x → ⊥) → MatchOption o (true ≡ false) P → (y : ℕ) × (o ≡ Some y) × (y ≡ x → ⊥)
open_other x None f h = absurd (true≢false h)
open_other x (Some y) f h = (y, refl, f y h)

-- no literal other than x was open
open_same : (x : ℕ) (o : Option ℕ) {P : ℕ → Type 0} → ((y : ℕ) → P y → y ≡ x) → MatchOption o (false ≡ false) P → (y : ℕ) → o ≡ Some y → y ≡ x
open_same x None f h y e = cc
open_same x (Some z) f h y e = let q : y ≡ z = cc in q ∙ f z h

pub returns-in-Some-true : goal.returns-in-Some-true
returns-in-Some-true c =
    let s = c.args.trail.now in
    let cl = c.args.clause.now in
    let x = c.literal-item.result in
    let at = get_or_read cl c.loop-literal.literal-index x c.loop-literal-test.true c.literal-item.is 0 in
    let here : x ∈ cl = subst (λ y. y ∈ cl) (sym at) (in_at cl 0 c.loop-literal.literal-index c.loop-literal-test.true) in
    let e : truth_of (literals_of s) x ≡ Some true = sym c.in-Some-true.ensures ∙ ap Some c.in-Some-true.field-0-test in
    still_true (literals_of s) cl x (trail_apart s) here (in_true _ x e)

pub returns-in-None : goal.returns-in-None
returns-in-None c =
    let t = literals_of c.args.trail.now in
    let cl = c.args.clause.now in
    let i = c.loop-literal.literal-index in
    let x = c.literal-item.result in
    let at = get_or_read cl i x c.loop-literal-test.true c.literal-item.is 0 in
    let here : x ∈ cl = subst (λ y. y ∈ cl) (sym at) (in_at cl 0 i c.loop-literal-test.true) in
    let r = open_other x c.loop-literal.open (λ y p. search rules) c.if-is_some_and.ensures in
    let k : Only t (take i cl) (Some r.0) = subst (Only t (take i cl)) r.1 c.loop-literal.invariant in
    still_open t cl r.0 x r.2 (in_take i cl r.0 k.0) here k.1 (sym c.in-None.ensures)

pub loop-literal-preserved : goal.loop-literal-preserved
loop-literal-preserved c =
    let t = literals_of c.args.trail.now in
    let cl = c.args.clause.now in
    let i = c.loop-literal.literal-index in
    let x = c.literal-item.result in
    let at = get_or_read cl i x c.loop-literal-test.true c.literal-item.is 0 in
    let more = take_more cl i 0 c.loop-literal-test.true ∙ ap (λ y. take i cl ++ y ∷ []) (sym at) in
    elim c.match-truth.branch [
      | in-Some-false w ↦
          let e : truth_of t x ≡ Some false = sym w.in-Some-false.ensures ∙ ap Some w.in-Some-false.field-0-test in
          subst₂ (Only t) (sym more) (sym w.open-is) (only_false t (take i cl) x c.loop-literal.open (in_false t x e) c.loop-literal.invariant)
      | in-None-2 w ↦
          let same = open_same x c.loop-literal.open (λ y p. search rules) w.if-is_some_and.ensures in
          subst₂ (Only t) (sym more) (sym w.open-is) (only_open t (take i cl) x c.loop-literal.open (sym w.in-None.ensures) same c.loop-literal.invariant)
    ]

pub returns-in-None-open : goal.returns-in-None-open
returns-in-None-open c =
    let e = take_all c.loop-literal.literal-index c.args.clause.now c.loop-literal-test.false in
    subst₂ (Only (literals_of c.args.trail.now)) e c.in-None-open.is c.loop-literal.invariant

pub returns-in-Some : goal.returns-in-Some
returns-in-Some c =
    let e = take_all c.loop-literal.literal-index c.args.clause.now c.loop-literal-test.false in
    subst₂ (Only (literals_of c.args.trail.now)) e c.in-Some.is c.loop-literal.invariant
