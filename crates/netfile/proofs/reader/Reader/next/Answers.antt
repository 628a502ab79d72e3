use Rattle.std.proofs.Common.{◌≡◌, ℕ, drop, false, List, true, Option, Result, Ok, Err, Some, None, refl, sym, ap, ◌∙◌, rules, arith}
use Rattle.std.specs.Result.{is_ok, MatchResult}
use Rattle.std.proofs.lemmas.Result.{err_from_is_err_and, MatchResult-at_ok, MatchResult-at_err}
use Rattle.network.specs.declared.refusal.Refusal.{Refusal}
use Rattle.netfile.specs.declared.fault.Fault.{Fault}
use Rattle.netfile.specs.declared.record.Expectation.{Expectation}
use Rattle.netfile.specs.declared.record.Expectation.TheVariants.{Start, Points, Tables, Pairs, Nothing}
use Rattle.netfile.specs.declared.fault.Layer.TheVariants.{Network as NetworkLayer}
use Rattle.netfile.specs.Faults.{fault_in}
use Rattle.netfile.specs.Records.{Item, item_of, record_at}
use Rattle.netfile.specs.Reading.{State, next_at, unless, objection}
use Rattle.netfile.specs.Drafts.{state_of, ended, unless_refused}
use Rattle.netfile.proofs.reader.Reader.next.Goals as goal

-- before the end a record that is in order by itself passes the network layer or is refused by it
through :
    (e : Expectation) (s : State) (place : ℕ) (bs : List ℕ) (x : Item) → false ≡ ended e → Ok x ≡ record_at place bs →
    next_at e s place bs ≡ unless place (objection s x) x
through Start s place bs x _ h = rw (← h) refl
through Points s place bs x _ h = rw (← h) refl
through Tables s place bs x _ h = rw (← h) refl
through Pairs s place bs x _ h = rw (← h) refl
through Nothing s place bs x u h = let z : ◌≡◌ {A = ℕ} 0 1 = cc in absurd (omega arith)

-- an item that is not refused is the answer
passes : (o : Option Refusal) (place : ℕ) (x : Item) → true ≡ is_ok (unless_refused o) → Ok x ≡ unless place o x
passes None place x h = refl
passes (Some r) place x h = let z : ◌≡◌ {A = ℕ} 0 1 = cc in absurd (omega arith)

-- a refusal is a fault of the network layer
stops :
    (o : Option Refusal) (place : ℕ) (x : Item) (r : Result (Unit {0}) Refusal) (f : Fault) → r ≡ unless_refused o →
    MatchResult r (λ _. ⊥) (λ e. f ≡ fault_in NetworkLayer place e) → Err f ≡ unless place o x
stops None place x r f e h = absurd (MatchResult-at_ok (λ _. ⊥) (λ e. f ≡ fault_in NetworkLayer place e) tt e h)
stops (Some q) place x r f e h = ap Err (MatchResult-at_err (λ _. ⊥) (λ e. f ≡ fault_in NetworkLayer place e) q e h)

pub returns-in_err-map_err-clause-answer : goal.returns-in_err-map_err-clause-answer
returns-in_err-map_err-clause-answer c =
    let r = c.args.self.now in
    let p = r.cursor.position in
    rw (through r.draft.expect (state_of r.draft) p (drop p r.cursor.file.now) (item_of c.in_ok-record.record) c.if-finished.ensures c.in_ok-record.ensures.answer)
    (let q = err_from_is_err_and c.from_residual-in_err-map_err.result c.from_residual-in_err-map_err.ensures.1 in
    rw (q.1, q.2)
    (stops (objection (state_of r.draft) (item_of c.in_ok-record.record)) p (item_of c.in_ok-record.record) c.objection.result c.in_err-map_err.field-0.0 c.objection.ensures
    (search rules)))

pub returns-clause-answer : goal.returns-clause-answer
returns-clause-answer c =
    let r = c.args.self.now in
    let p = r.cursor.position in
    let x = item_of c.in_ok-record.record in
    passes (objection (state_of r.draft) x) p x (c.in_ok-map_err.ensures.variant ∙ ap is_ok c.objection.ensures) ∙
    sym (through r.draft.expect (state_of r.draft) p (drop p r.cursor.file.now) x c.if-finished.ensures c.in_ok-record.ensures.answer)
