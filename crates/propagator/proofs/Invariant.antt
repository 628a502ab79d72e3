-- A propagator's own invariant, in hand.
use Rattle.std.proofs.Common.{◌≡◌, ℕ, ◌-◌, ◌<◌, Bool, true, false, cond, ⊎_elim, Option, Bor, is_some, IfSome, get_or, slice_get, map, Some, None, nat_lt, refl, List, [], ◌∷◌, ◌++◌, length, take, sym, ap, vec_items, vec_len, ◌∙◌, arith}
use Rattle.std.specs.List.{range_with_len}
use Rattle.std.specs.Option.{option_copied}
use Rattle.std.proofs.lemmas.Bool.{ltb-true, ltb-false, cases_lt, lt-ltb, le-ltb}
use Rattle.std.proofs.lemmas.List.FromFn.{length-map-range_with_len, get_or-map-range_with_len}
use Rattle.std.proofs.lemmas.Option.{slice_get-get_or, slice_get_past}
use Rattle.std.proofs.lemmas.List.{length-map, map_push, take-map}
use mathlib.Core.Logic.{∥∥₁_elim}
use denote.Struct.Props.{props}
use Rattle.theory.specs.declared.Mark.TheVariants.{Open}
use Rattle.theory.specs.declared.Mark.{Mark}
use Rattle.theory.specs.Marks.{mark_of}
use Rattle.clause_store.specs.Contents.{clauses_of}
use Rattle.trail.specs.Parts.{literals_of}
use Rattle.trail.proofs.Invariant.{trail_shorter}
use Rattle.propagation.specs.Reaches.{HoldsReached}
use Rattle.propagator.specs.declared.propagator.Propagator.{Propagator}
use Rattle.propagator.specs.Standing.{Standing, Standing-prop}
use Rattle.propagator.specs.declared.propagator.decision.Decision.{Decision}
use Rattle.propagator.specs.Decisions.{literals_in, heights_in}
use Rattle.propagator.specs.States.{State, state_of, has_clash, mark_in, known_mark, known_marks}
use Rattle.propagator.proofs.Standings.{few}
use Rattle.propagator.proofs.Deciding.{marks_agree}

-- the decisions of a propagator, and the heights of its trail before each
abbrev pub decided : Propagator → List ℕ
decided p = literals_in (vec_items p.decisions)

abbrev pub heights : Propagator → List ℕ
heights p = heights_in (vec_items p.decisions)

-- where a mark is known there is no clash and such a value, and it is the value's mark
pub known : (s : State) (v : ℕ) (m : Mark) → known_mark s v ≡ Some m → (has_clash s ≡ false) × (v < s.values) × (mark_in s v ≡ m)
known s v m e = go (has_clash s) (nat_lt v s.values) refl refl e
  where
    go :
        (a b : Bool) → has_clash s ≡ a → nat_lt v s.values ≡ b → cond a None (cond b (Some (mark_in s v)) None) ≡ Some m →
        (has_clash s ≡ false) × (v < s.values) × (mark_in s v ≡ m)
    go true b p q k = absurd cc
    go false false p q k = absurd cc
    go false true p q k = (p, ltb-true _ _ q, cc)

-- where the marks are known there is no clash
pub marks_known : (s : State) (ms : List Mark) → known_marks s ≡ Some ms → (has_clash s ≡ false) × (ms ≡ map (mark_in s) (range_with_len 0 s.values))
marks_known s ms e = go (has_clash s) refl e
  where
    go : (a : Bool) → has_clash s ≡ a → cond a None (Some (map (mark_in s) (range_with_len 0 s.values))) ≡ Some ms → (has_clash s ≡ false) × (ms ≡ map (mark_in s) (range_with_len 0 s.values))
    go true p k = absurd cc
    go false p k = (p, cc)

-- the mark that was read is the one at its place
pub got : (ms : List Mark) (n : ℕ) (r : Option (Bor Mark)) → is_some r ≡ nat_lt n (length ms) → IfSome r (λ m. m.now ≡ get_or ms n m.now) → option_copied r ≡ slice_get ms n
got ms n None e f = sym (slice_get_past ms n (ltb-false _ _ (sym e)))
got ms n (Some m) e f = ap Some f ∙ sym (slice_get-get_or ms n m.now (ltb-true _ _ (sym e)))

-- a mark is known from the marks
pub one_of_marks : (s : State) (ms : List Mark) (n : ℕ) → known_marks s ≡ Some ms → slice_get ms n ≡ known_mark s n
one_of_marks s ms n e =
    let k = marks_known s ms e in
    let row = map (mark_in s) (range_with_len 0 s.values) in
    let long : length row ≡ s.values = length-map-range_with_len (mark_in s) 0 s.values in
    rw (k.1, k.0)
    (⊎_elim
    (λ h. rw (lt-ltb n s.values h)
    (slice_get-get_or row n Open (omega (arith, long)) ∙ ap Some (get_or-map-range_with_len (mark_in s) 0 s.values n n Open h (omega arith))))
    (λ h. rw (le-ltb n s.values h) (slice_get_past row n (omega (arith, long)))) (cases_lt n s.values))

module _ (p : Propagator) where
  pub standing_of : Standing p.store.values (clauses_of p.store) (literals_of p.trail) (decided p) (heights p) p.clashed
  standing_of =
      ∥∥₁_elim p.ok
      (Standing-prop (hlevel props) (hlevel props) (hlevel props) (hlevel props) (hlevel props) (hlevel props) (hlevel props)) (λ k. k)

  -- a height for each decision
  pub same_many : length (heights p) ≡ length (decided p)
  same_many = length-map (vec_items p.decisions) (λ (d : Decision). d.height) ∙ sym (length-map (vec_items p.decisions) (λ (d : Decision). d.literal))

  -- after the last decision is taken off
  pub decided_less : (ds : List Decision) → ds ≡ take (vec_len p.decisions - 1) (vec_items p.decisions) → literals_in ds ≡ take (length (decided p) - 1) (decided p)
  decided_less ds e =
      let n : vec_len p.decisions ≡ length (decided p) = p.decisions.ok.0 ∙ sym (length-map (vec_items p.decisions) (λ (d : Decision). d.literal)) in
      ap literals_in e ∙ sym (take-map (λ (d : Decision). d.literal) (vec_len p.decisions - 1) (vec_items p.decisions)) ∙ ap (λ n. take (n - 1) (decided p)) n

  pub heights_less : (ds : List Decision) (d : Decision) → vec_items p.decisions ≡ ds ++ d ∷ [] → heights p ≡ heights_in ds ++ d.height ∷ []
  heights_less ds d e = ap heights_in e ∙ map_push (λ (d : Decision). d.height) ds d

  module _ (calm : has_clash (state_of p) ≡ false) where
    -- without a clash the trail holds what is reached
    pub holds_of : HoldsReached (clauses_of p.store) p.store.values (decided p) (literals_of p.trail)
    holds_of = standing_of.here (standing_of.flag ∙ calm)

    -- and its marks are those under the decisions
    pub mark_of_lem : (v : ℕ) → mark_of (literals_of p.trail) v ≡ mark_in (state_of p) v
    mark_of_lem v = marks_agree p.store.values (clauses_of p.store) (decided p) (literals_of p.trail) holds_of v

  -- while a value is open there are fewer decisions than values
  pub room : (v : ℕ) → known_mark (state_of p) v ≡ Some Open → vec_len p.decisions < p.store.values
  room v o =
      let k = known (state_of p) v Open o in
      omega (
        arith,
        few _ _ _ _ _ _ standing_of same_many,
        length-map (vec_items p.decisions) (λ (d : Decision). d.height),
        p.decisions.ok.0,
        trail_shorter p.trail v (omega (arith, k.1, p.sized)) (mark_of_lem k.0 v ∙ k.2),
        p.sized,
      )
