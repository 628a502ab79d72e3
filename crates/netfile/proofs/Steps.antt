-- One step of reading: at any place the file ends there in order, a fault is found, or a record passes.
use Rattle.std.proofs.Common.{◌≡◌, ℕ, ◌+◌, ◌<◌, Bool, true, false, cond, leb, ◌⊎◌, List, [], ◌∷◌, ◌++◌, length, Some, None, Ok, Err, Decides, Option, sym, refl, ap, ◌∙◌, subst, inl, inr, ⊎_elim, arith}
use Rattle.std.proofs.lemmas.Bool.{lt-leb, cond-false, both_ways}
use Rattle.theory.specs.Lists.{◌∈◌}
use Rattle.theory.proofs.Members.{in_left}
use Rattle.network.specs.declared.refusal.Refusal.{Refusal}
use Rattle.network.specs.declared.refusal.Refusal.TheVariants.{Truncated, UnknownKind, BadHead, BadPoint, BadTable, Misplaced, MissingPoint, MissingValue, RepeatedPair, WrongCount, TrailingBytes}
use Rattle.network.specs.Refusals.{number_of}
use Rattle.netfile.specs.declared.fault.Fault.{Fault}
use Rattle.netfile.specs.declared.record.Kind.{Kind}
use Rattle.netfile.specs.declared.record.Expectation.{Expectation}
use Rattle.netfile.specs.declared.record.Expectation.TheVariants.{Start, Points, Tables, Pairs, Nothing}
use Rattle.netfile.specs.Bytes.{code_of}
use Rattle.netfile.specs.Records.{Item, kind_of_item, record_at}
use Rattle.netfile.specs.Reading.{State, may_come, has_kind, objection_to, objection, admitted, next_at, contents, at_end, read_from}
use Rattle.netfile.specs.Listings.{AreBytes}
use Rattle.netfile.specs.Conditions.{Begins, Finished, Condition, FaultAt, item_bytes, Fits}
use Rattle.netfile.proofs.Lowest.{refusals, first, first_lowest, first_or_later}
use Rattle.netfile.proofs.Fronts.{Front, short, unknown, whole, front, raw_short, raw_unknown, raw_whole}
use Rattle.netfile.proofs.Items.{orderly, bad_of, said, item_body, item_bytes_lem, item_says, body_says}
use Rattle.netfile.proofs.Verdicts.{met, decides_met, fault_of, outcome, first_met, verdict}

-- more is expected: the next record goes through the three layers, and the file may not end
abbrev Going : Expectation → Type 0
Going e =
    (e ≡ Nothing → ⊥) × ((s : State) (place : ℕ) (bs : List ℕ) → next_at e s place bs ≡ admitted s place (record_at place bs)) ×
    ((s : State) (place : ℕ) → at_end e s place ≡ Err (fault_of place Truncated))

-- the end record has come, or more is expected
nothing_or_going : (e : Expectation) → (e ≡ Nothing) ⊎ Going e
nothing_or_going Start = inr (λ p. let z : ◌≡◌ {A = ℕ} 0 1 = cc in omega arith, λ s place bs. refl, λ s place. refl)
nothing_or_going Points = inr (λ p. let z : ◌≡◌ {A = ℕ} 0 1 = cc in omega arith, λ s place bs. refl, λ s place. refl)
nothing_or_going Tables = inr (λ p. let z : ◌≡◌ {A = ℕ} 0 1 = cc in omega arith, λ s place bs. refl, λ s place. refl)
nothing_or_going Pairs = inr (λ p. let z : ◌≡◌ {A = ℕ} 0 1 = cc in omega arith, λ s place bs. refl, λ s place. refl)
nothing_or_going Nothing = inl refl

going : (s : State) → (Finished s → ⊥) → Going s.expect
going s u = ⊎_elim (λ f. absurd (u f)) (λ g. g) (nothing_or_going s.expect)

-- after the end record only the last condition can hold
pub only_trailing : (s : State) (bs : List ℕ) → Finished s → (y : Refusal) → Condition y s bs → (y ≡ TrailingBytes) × (bs ≡ [] → ⊥)
only_trailing s bs f Truncated c = absurd (c.0 f)
only_trailing s bs f UnknownKind c = absurd (c.0 f)
only_trailing s bs f BadHead c = absurd (c.0 f)
only_trailing s bs f BadPoint c = absurd (c.0 f)
only_trailing s bs f BadTable c = absurd (c.0 f)
only_trailing s bs f Misplaced c = absurd (c.0 f)
only_trailing s bs f MissingPoint c = absurd (c.0 f)
only_trailing s bs f MissingValue c = absurd (c.0 f)
only_trailing s bs f RepeatedPair c = absurd (c.0 f)
only_trailing s bs f WrongCount c = absurd (c.0 f)
only_trailing s bs f TrailingBytes c = (refl, c.1)

-- reading stops at a fault of the next record
fault_stops : (s : State) (place : ℕ) (bs : List ℕ) (f : Fault) → (Finished s → ⊥) → next_at s.expect s place bs ≡ Err f → read_from s place 0 bs ≡ Err f
fault_stops s place [] f u e = let g = (going s u).2 s place in let h = (going s u).1 s place [] in cc
fault_stops s place (b ∷ bs) f u e = rw e refl

-- the next record, where it is whole
next_whole :
    (s : State) (place : ℕ) (k : Kind) (body bs : List ℕ) → (Finished s → ⊥) → Begins k body bs →
    next_at s.expect s place bs ≡ outcome place (first (met s k body) refusals) (said k body)
next_whole s place k body bs u b = rw ((going s u).1 s place bs, raw_whole place k body bs b) (verdict s place k body)

-- a whole record at which a condition is met has the fault of the first that is
refused :
    (s : State) (place : ℕ) (k : Kind) (body bs : List ℕ) → (Finished s → ⊥) → Begins k body bs →
    (r : Refusal) → first (met s k body) refusals ≡ Some r → FaultAt s place bs (fault_of place r)
refused s place k body bs u b r e =
    record {
      holds = (d r).0 low.0;
      lowest = λ x l c. both_ways (met s k body x) (low.1 x tt l) ((d x).1 c);
      layer = refl;
      place = sym (cond-false (leb (number_of r) 1) (place + length bs) place (lt-leb (number_of r) 1 late));
    }
  where
    d : (y : Refusal) → Decides (met s k body y) (Condition y s bs)
    d = decides_met s k body bs b u

    low : (met s k body r ≡ true) × ((y : Refusal) → Unit {0} → number_of y < number_of r → met s k body y ≡ false)
    low = first_lowest (met s k body) (Some r) e

    late : 1 < number_of r
    late = ⊎_elim (λ p. absurd (both_ways (met s k body r) (ap (met s k body) p) low.0)) (λ l. l) (first_or_later r)

-- a record that is in order by itself, and with which nothing is wrong where it stands
pub record Passes (s : State) (bs : List ℕ) : Type 0 where
  pub item : Item
  pub rest : List ℕ
  pub split : bs ≡ item_bytes item ++ rest
  pub fits : Fits item
  pub unopposed : objection s item ≡ None

-- where no condition is met, the record is in order by itself, and nothing is wrong with the item where it stands
none_met :
    (s : State) (k : Kind) (body : List ℕ) → first (met s k body) refusals ≡ None → (orderly k body ≡ true) × (objection s (said k body) ≡ None)
none_met s k body e = go (orderly k body) (sym (first_met s k body) ∙ e)
  where
    go : (b : Bool) → cond b (objection s (said k body)) (Some (bad_of k)) ≡ None → (b ≡ true) × (objection s (said k body) ≡ None)
    go true h = (refl, h)
    go false h = let z : ◌≡◌ {A = ℕ} 0 1 = cc in absurd (omega arith)

-- where no condition is met, the record passes
passed :
    (s : State) (k : Kind) (body bs : List ℕ) → AreBytes bs → Begins k body bs → first (met s k body) refusals ≡ None → Passes s bs
passed s k body bs by (l, (rest, e)) n =
    record { item = said k body; rest = rest; split = rw says.0 e; fits = says.1; unopposed = (none_met s k body n).1 }
  where
    says : (item_bytes (said k body) ≡ code_of k ∷ body) × Fits (said k body)
    says = body_says k body (λ b i. by b (subst (λ x. b ∈ x) (sym e) (inr (in_left body rest b i)))) l (none_met s k body n).0

-- the file ends in order, or there is a fault
pub data Stop (s : State) (place : ℕ) (bs : List ℕ) : Type 0 where
  done : Finished s → bs ≡ [] → read_from s place 0 bs ≡ Ok (contents s) → Stop s place bs
  faulty : (f : Fault) → FaultAt s place bs f → read_from s place 0 bs ≡ Err f → Stop s place bs

-- after the end record the file ends, or the bytes that follow are the fault
finished_stop : (s : State) (place : ℕ) (bs : List ℕ) → Finished s → Stop s place bs
finished_stop s place [] f = done f refl (rw f refl)
finished_stop s place (b ∷ bs) f =
    faulty (fault_of place TrailingBytes)
    (record {
      holds = (f, λ e. let z : ◌≡◌ {A = ℕ} 0 1 = cc in omega arith);
      lowest = λ x l c. omega (arith, ap number_of (only_trailing s (b ∷ bs) f x c).0);
      layer = refl;
      place = refl;
    })
    (rw f refl)

-- before it, there is a fault or the record passes, by how the bytes begin
going_step : (s : State) (place : ℕ) (bs : List ℕ) → AreBytes bs → (Finished s → ⊥) → Front bs → Stop s place bs ⊎ Passes s bs
going_step s place bs by u (short h) =
    inl (faulty (fault_of (place + length bs) Truncated)
    (record {
      holds = (u, h);
      lowest = λ x l c. ⊎_elim (λ e. omega (arith, ap number_of e)) (λ m. omega arith) (first_or_later x);
      layer = refl;
      place = refl;
    })
    (fault_stops s place bs (fault_of (place + length bs) Truncated) u (rw ((going s u).1 s place bs, raw_short place bs h) refl)))
going_step s place bs by u (unknown b rest e n) =
    inl (faulty (fault_of place UnknownKind)
    (record {
      holds = (u, (b, rest, e, n));
      lowest = λ x l c. ⊎_elim (λ p. not_short (subst (λ y. Condition y s bs) p c)) (λ m. omega arith) (first_or_later x);
      layer = refl;
      place = refl;
    })
    (fault_stops s place bs (fault_of place UnknownKind) u (rw ((going s u).1 s place bs, e, raw_unknown place b rest n) refl)))
  where
    not_short : Condition Truncated s bs → ⊥
    not_short (_, inl p) = let z : ◌≡◌ {A = ℕ} 0 1 = cc in omega arith
    not_short (_, inr (k, _, p, _)) = n k (cc)
going_step s place bs by u (whole k body b) = go (first (met s k body) refusals) refl
  where
    go : (o : Option Refusal) → first (met s k body) refusals ≡ o → Stop s place bs ⊎ Passes s bs
    go None e = inr (passed s k body bs by b e)
    go (Some r) e =
        inl (faulty (fault_of place r) (refused s place k body bs u b r e)
        (fault_stops s place bs (fault_of place r) u (rw (next_whole s place k body bs u b, e) refl)))

-- at any place the file ends in order, there is a fault, or a record passes
pub step : (s : State) (place : ℕ) (bs : List ℕ) → AreBytes bs → Stop s place bs ⊎ Passes s bs
step s place bs by =
    ⊎_elim (λ f. inl (finished_stop s place bs f)) (λ g. going_step s place bs by g.0 (front bs)) (nothing_or_going s.expect)

-- the bytes of an item that fits begin with its record
item_begins : (x : Item) (rest : List ℕ) → Fits x → Begins (kind_of_item x) (item_body x) (item_bytes x ++ rest)
item_begins x rest f = ((item_says x f).0, (rest, ap (λ bs. bs ++ rest) (item_bytes_lem x)))

module _ (s : State) (x : Item) (rest : List ℕ) (fits : Fits x) (unopposed : objection s x ≡ None) where
  -- after the end record nothing passes
  not_finished : Finished s → ⊥
  not_finished f =
      let o : cond (has_kind (may_come Nothing s) (kind_of_item x)) (objection_to s x) (Some Misplaced) ≡ None = rw f at unopposed in
      let z : ◌≡◌ {A = ℕ} 0 1 = cc in omega arith

  -- no condition is met at a record that passes
  none_at : first (met s (kind_of_item x) (item_body x)) refusals ≡ None
  none_at = rw (first_met s (kind_of_item x) (item_body x), (item_says x fits).1, (item_says x fits).2) unopposed

  -- a record that passes is read as its item
  pub next_item : (place : ℕ) → next_at s.expect s place (item_bytes x ++ rest) ≡ Ok x
  next_item place =
      rw (next_whole s place (kind_of_item x) (item_body x) (item_bytes x ++ rest) not_finished (item_begins x rest fits), none_at)
      (ap (λ y. Ok y) (item_says x fits).2)

  -- and the condition of no refusal holds at it
  pub no_condition : (y : Refusal) → Condition y s (item_bytes x ++ rest) → ⊥
  no_condition y c =
      both_ways (met s (kind_of_item x) (item_body x) y) (first_lowest (met s (kind_of_item x) (item_body x)) None none_at y tt)
      ((decides_met s (kind_of_item x) (item_body x) (item_bytes x ++ rest) (item_begins x rest fits) not_finished y).1 c)
