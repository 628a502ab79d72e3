-- What is said of a whole record: the refusal of the lowest number whose condition holds, if any.
use Rattle.std.proofs.Common.{◌≡◌, ℕ, ◌+◌, ◌*◌, ◌≤◌, Bool, true, false, cond, not, ◌&&◌, eqb, ltb, List, [], ◌∷◌, length, get_or, drop, Some, None, Ok, Err, Decides, Option, Result, sym, refl, ap, subst, arith}
use mathlib.Core.Bool.{false≢true}
use Rattle.std.proofs.lemmas.Bool.{eqb-true, eq-eqb, ltb-false, le-ltb, not-true, not_from_false, and_parts, and_from, cond_both}
use Rattle.std.proofs.lemmas.Bool.Decides.{Decides-not, Decides-and, Decides-or, Decides-eqb, Decides-ltb}
use Rattle.theory.specs.Lists.{◌∈◌}
use Rattle.theory.specs.Network.{allows}
use Rattle.theory.specs.Numbering.{count}
use Rattle.network.specs.declared.refusal.Refusal.{Refusal}
use Rattle.network.specs.declared.refusal.Refusal.TheVariants.{Truncated, UnknownKind, BadHead, BadPoint, BadTable, Misplaced, MissingPoint, MissingValue, RepeatedPair, WrongCount, TrailingBytes}
use Rattle.network.specs.Bounds.{PointWithin}
use Rattle.network.specs.Points.{values_of}
use Rattle.netfile.specs.declared.fault.Fault.{Fault}
use Rattle.netfile.specs.declared.fault.Layer.TheVariants.{Record as RecordLayer}
use Rattle.netfile.specs.declared.record.Kind.{Kind}
use Rattle.netfile.specs.declared.record.Kind.TheVariants.{Head, Point, Table, Pair, End}
use Rattle.netfile.specs.Faults.{fault_in}
use Rattle.netfile.specs.Bytes.{code_of}
use Rattle.netfile.specs.Records.{Item, head, point, table, pair, end, kind_of_item, head_fits, point_fits, table_fits, in_order, checked}
use Rattle.netfile.specs.Reading.{State, may_come, has_kind, last_table, has_values, objection_to, objection, unless, admitted}
use Rattle.netfile.specs.Conditions.{layer_of, Begins, HeadWithin, HasValues, Finished, Condition}
use Rattle.netfile.proofs.Lowest.{refusals, first}
use Rattle.netfile.proofs.Fronts.{code_once, raw_short, raw_unknown, raw_whole, begins_once}
use Rattle.netfile.proofs.Items.{decides_head, decides_point, orderly, bad_of, said, checked_is}

-- whether a record is of the kind
abbrev is : Kind → Kind → Bool
is j k = eqb (code_of j) (code_of k)

-- whether the condition of a refusal holds at a whole record, before the end record has come
abbrev pub met : State → Kind → List ℕ → Refusal → Bool
met s k body Truncated = false
met s k body UnknownKind = false
met s k body BadHead = is Head k && not (head_fits body)
met s k body BadPoint = is Point k && not (point_fits body)
met s k body BadTable = is Table k && not (table_fits body)
met s k body Misplaced = not (has_kind (may_come s.expect s) k)
met s k body MissingPoint = is Table k && not (ltb (get_or body 1 0) (length s.points))
met s k body MissingValue = is Pair k && not (has_values s (get_or body 0 0) (get_or body 1 0))
met s k body RepeatedPair = is Pair k && allows (last_table s) (get_or body 0 0) (get_or body 1 0)
met s k body WrongCount = is End k && not (eqb (256 * get_or body 0 0 + get_or body 1 0) s.pairs)
met s k body TrailingBytes = false

decides_never : {P : Type 0} → (P → ⊥) → Decides false P
decides_never f = (λ e. absurd (false≢true e), λ p. absurd (f p))

decides_le : (a b : ℕ) → Decides (not (ltb a b)) (b ≤ a)
decides_le a b = (λ e. ltb-false a b (not-true (ltb a b) e), λ l. not_from_false (ltb a b) (le-ltb a b l))

decides_is : (j k : Kind) → Decides (is j k) (k ≡ j)
decides_is j k = (λ t. code_once k j (sym (eqb-true (code_of j) (code_of k) t)), λ e. eq-eqb (code_of j) (code_of k) (ap code_of (sym e)))

decides_kind : (ks : List Kind) (k : Kind) → Decides (has_kind ks k) (k ∈ ks)
decides_kind [] k = decides_never (λ h. h)
decides_kind (j ∷ ks) k = Decides-or (is j k) (has_kind ks k) (decides_is j k) (decides_kind ks k)

decides_values : (s : State) (i j : ℕ) → Decides (has_values s i j) (HasValues s i j)
decides_values s i j =
    Decides-and (ltb i (count (values_of s.points) (last_table s).low)) (ltb j (count (values_of s.points) (last_table s).high))
    (Decides-ltb i (count (values_of s.points) (last_table s).low)) (Decides-ltb j (count (values_of s.points) (last_table s).high))

module _ (s : State) (k : Kind) (body bs : List ℕ) (begins : Begins k body bs) (unfinished : Finished s → ⊥) where
  -- of a condition on the bodies of one kind of record
  decides_of :
      (j : Kind) (P : List ℕ → Type 0) (t : Bool) → Decides t (P body) →
      Decides (is j k && t) ((Finished s → ⊥) × ((b : List ℕ) × Begins j b bs × P b))
  decides_of j P t d = (
    λ e.
        let p = and_parts (is j k) t e in
        (unfinished, (body, subst (λ x. Begins x body bs) ((decides_is j k).0 p.0) begins, d.0 p.1)),
    λ c.
        let q = begins_once k j body c.1.0 bs begins c.1.1 in
        and_from (is j k) t ((decides_is j k).1 q.0) (d.1 (subst P (sym q.1) c.1.2)),
  )

  -- each test tells whether its condition holds
  pub decides_met : (y : Refusal) → Decides (met s k body y) (Condition y s bs)
  decides_met Truncated =
      decides_never (λ c.
      let p = raw_short 0 bs c.1 in
      let q = raw_whole 0 k body bs begins in
      let z : ◌≡◌ {A = ℕ} 0 1 = cc in omega arith)
  decides_met UnknownKind =
      decides_never (λ c.
      let p = raw_unknown 0 c.1.0 c.1.1 c.1.3 in
      let q = raw_whole 0 k body bs begins in
      let z : ◌≡◌ {A = ℕ} 0 1 = cc in omega arith)
  decides_met BadHead = decides_of Head (λ b. HeadWithin b → ⊥) (not (head_fits body)) (Decides-not (head_fits body) (decides_head body))
  decides_met BadPoint =
      decides_of Point (λ b. PointWithin (get_or b 0 0) (drop 1 b) → ⊥) (not (point_fits body)) (Decides-not (point_fits body) (decides_point body))
  decides_met BadTable =
      decides_of Table (λ b. get_or b 1 0 ≤ get_or b 0 0) (not (table_fits body)) (decides_le (get_or body 0 0) (get_or body 1 0))
  decides_met Misplaced =
      let d = Decides-not (has_kind (may_come s.expect s) k) (decides_kind (may_come s.expect s) k) in (
        λ e. (unfinished, (k, body, begins, d.0 e)),
        λ c. d.1 (subst (λ x. x ∈ may_come s.expect s → ⊥) (sym (begins_once k c.1.0 body c.1.1 bs begins c.1.2).0) c.1.3),
      )
  decides_met MissingPoint =
      decides_of Table (λ b. length s.points ≤ get_or b 1 0) (not (ltb (get_or body 1 0) (length s.points)))
      (decides_le (get_or body 1 0) (length s.points))
  decides_met MissingValue =
      decides_of Pair (λ b. HasValues s (get_or b 0 0) (get_or b 1 0) → ⊥) (not (has_values s (get_or body 0 0) (get_or body 1 0)))
      (Decides-not (has_values s (get_or body 0 0) (get_or body 1 0)) (decides_values s (get_or body 0 0) (get_or body 1 0)))
  decides_met RepeatedPair =
      decides_of Pair (λ b. allows (last_table s) (get_or b 0 0) (get_or b 1 0) ≡ true) (allows (last_table s) (get_or body 0 0) (get_or body 1 0)) (λ e. e, λ e. e)
  decides_met WrongCount =
      decides_of End (λ b. 256 * get_or b 0 0 + get_or b 1 0 ≡ s.pairs → ⊥) (not (eqb (256 * get_or body 0 0 + get_or body 1 0) s.pairs))
      (Decides-not (eqb (256 * get_or body 0 0 + get_or body 1 0) s.pairs) (Decides-eqb (256 * get_or body 0 0 + get_or body 1 0) s.pairs))
  decides_met TrailingBytes = decides_never (λ c. unfinished c.0)

-- the fault of a refusal at a whole record
abbrev pub fault_of : ℕ → Refusal → Fault
fault_of place r = fault_in (layer_of r) place r

-- the item unless it is refused
abbrev pub outcome : ℕ → Option Refusal → Item → Result Item Fault
outcome place None x = Ok x
outcome place (Some r) x = Err (fault_of place r)

-- what is wrong with an item is found by the network layer
objection_layer : (s : State) (place : ℕ) (x : Item) → unless place (objection s x) x ≡ outcome place (objection s x) x
objection_layer s place x = either (has_kind (may_come s.expect s) (kind_of_item x)) (objection_to s x) Misplaced (to x) refl
  where
    Same : Option Refusal → Type 0
    Same o = unless place o x ≡ outcome place o x

    either : (b : Bool) (o : Option Refusal) (r : Refusal) → Same o → Same (Some r) → Same (cond b o (Some r))
    either b o r p q = cond_both b o (Some r) Same (λ _. p) (λ _. q)

    to : (y : Item) → Same (objection_to s y)
    to (head p t) = refl
    to (point e) = refl
    to (table l h) = either (ltb h (length s.points)) None MissingPoint refl refl
    to (pair i j) =
        either (has_values s i j) (cond (allows (last_table s) i j) (Some RepeatedPair) None) MissingValue
        (cond_both (allows (last_table s) i j) (Some RepeatedPair) None Same (λ _. refl) (λ _. refl)) refl
    to (end n) = either (eqb n s.pairs) None WrongCount refl refl

-- what is wrong with a record by itself is found by the record layer
record_layer : (k : Kind) → layer_of (bad_of k) ≡ RecordLayer
record_layer Head = refl
record_layer Point = refl
record_layer Table = refl
record_layer Pair = refl
record_layer End = refl

cond_not : {A : Type 0} (b : Bool) (x y : A) → cond (not b) x y ≡ cond b y x
cond_not true x y = refl
cond_not false x y = refl

-- the first condition that is met, as the layers look for it
pub first_met :
    (s : State) (k : Kind) (body : List ℕ) → first (met s k body) refusals ≡ cond (orderly k body) (objection s (said k body)) (Some (bad_of k))
first_met s Head body = simp cond_not
first_met s Point body = simp cond_not
first_met s Table body = simp cond_not
first_met s Pair body = simp cond_not
first_met s End body = simp cond_not

-- the record and the network layer say of a whole record the first condition that is met
pub verdict :
    (s : State) (place : ℕ) (k : Kind) (body : List ℕ) →
    admitted s place (checked place k body) ≡ outcome place (first (met s k body) refusals) (said k body)
verdict s place k body = rw (checked_is place k body, first_met s k body) (layered (orderly k body))
  where
    layered :
        (b : Bool) → admitted s place (in_order place b (bad_of k) (said k body)) ≡
        outcome place (cond b (objection s (said k body)) (Some (bad_of k))) (said k body)
    layered true = objection_layer s place (said k body)
    layered false = rw (record_layer k) refl
