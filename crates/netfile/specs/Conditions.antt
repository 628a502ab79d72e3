-- The condition of each refusal that a file can meet, and the law that the first faulty record decides, lowest number first.
use Rattle.std.specs.Prelude.{◌≡◌, ℕ, ◌+◌, ◌*◌, ◌<◌, ◌≤◌, true, cond, ◌⊎◌, List, [], ◌∷◌, ◌++◌, length, drop, None, Err, ◌≢◌, nat_le, slice_index}
use Rattle.std.specs.List.{flat_map}
use Rattle.theory.specs.Lists.{◌∈◌}
use Rattle.theory.specs.Network.{allows}
use Rattle.theory.specs.Numbering.{count}
use Rattle.network.specs.declared.refusal.Refusal.{Refusal}
use Rattle.network.specs.declared.refusal.Refusal.TheVariants.{Truncated, UnknownKind, BadHead, BadPoint, BadTable, Misplaced, MissingPoint, MissingValue, RepeatedPair, WrongCount, TrailingBytes}
use Rattle.network.specs.Bounds.{most_tables, PointWithin, PointsWithin}
use Rattle.network.specs.Points.{values_of}
use Rattle.network.specs.Refusals.{number_of}
use Rattle.netfile.specs.declared.fault.Fault.{Fault}
use Rattle.netfile.specs.declared.fault.Layer.{Layer}
use Rattle.netfile.specs.declared.fault.Layer.TheVariants.{Byte, Record as RecordLayer, Network as NetworkLayer}
use Rattle.netfile.specs.declared.record.Kind.{Kind}
use Rattle.netfile.specs.declared.record.Kind.TheVariants.{Head, Point, Table, Pair, End}
use Rattle.netfile.specs.declared.record.Expectation.TheVariants.{Nothing}
use Rattle.netfile.specs.Bytes.{code_of, body_length}
use Rattle.netfile.specs.Records.{Item, head, point, table, pair, end}
use Rattle.netfile.specs.Reading.{State, start, may_come, last_table, objection, after, read_file}
use Rattle.netfile.specs.Listings.{EntryWithin, AreBytes, point_bytes, end_bytes}

-- the layer that finds a refusal: 1 and 2 in the bytes, 3 to 5 in the record, the others in what the records say together
abbrev pub layer_of : Refusal → Layer
layer_of x = cond (nat_le (number_of x) 2) Byte (cond (nat_le (number_of x) 5) RecordLayer NetworkLayer)

-- the bytes begin with a whole record of the kind, with this body
abbrev pub Begins : Kind → List ℕ → List ℕ → Type 0
Begins k body bs = (length body ≡ body_length k) × ((rest : List ℕ) × (bs ≡ code_of k ∷ (body ++ rest)))

-- the bytes end before a record does: there are none, or too few for the body of the kind
abbrev pub StopsShort : List ℕ → Type 0
StopsShort bs = (bs ≡ []) ⊎ ((k : Kind) × (rest : List ℕ) × (bs ≡ code_of k ∷ rest) × (length rest < body_length k))

-- version 1, 1 to 48 points, at most 64 tables
abbrev pub HeadWithin : List ℕ → Type 0
HeadWithin body = (slice_index body 0 ≡ 1) × PointsWithin (slice_index body 1) × (slice_index body 2 ≤ most_tables)

-- the points of the last table have these values
abbrev pub HasValues : State → ℕ → ℕ → Type 0
HasValues s i j = (i < count (values_of s.points) (last_table s).low) × (j < count (values_of s.points) (last_table s).high)

-- the end record has come
abbrev pub Finished : State → Type 0
Finished s = s.expect ≡ Nothing

-- the condition of each refusal, at the record with which the bytes begin, after records that said s
abbrev pub Condition : Refusal → State → List ℕ → Type 0
Condition Truncated s bs = (Finished s → ⊥) × StopsShort bs
Condition UnknownKind s bs = (Finished s → ⊥) × ((b : ℕ) × (rest : List ℕ) × (bs ≡ b ∷ rest) × ((k : Kind) → code_of k ≢ b))
Condition BadHead s bs = (Finished s → ⊥) × ((body : List ℕ) × Begins Head body bs × (HeadWithin body → ⊥))
Condition BadPoint s bs = (Finished s → ⊥) × ((body : List ℕ) × Begins Point body bs × (PointWithin (slice_index body 0) (drop 1 body) → ⊥))
Condition BadTable s bs = (Finished s → ⊥) × ((body : List ℕ) × Begins Table body bs × (slice_index body 1 ≤ slice_index body 0))
Condition Misplaced s bs = (Finished s → ⊥) × ((k : Kind) × (body : List ℕ) × Begins k body bs × (k ∈ may_come s.expect s → ⊥))
Condition MissingPoint s bs = (Finished s → ⊥) × ((body : List ℕ) × Begins Table body bs × (length s.points ≤ slice_index body 1))
Condition MissingValue s bs = (Finished s → ⊥) × ((body : List ℕ) × Begins Pair body bs × (HasValues s (slice_index body 0) (slice_index body 1) → ⊥))
Condition RepeatedPair s bs = (Finished s → ⊥) × ((body : List ℕ) × Begins Pair body bs × (allows (last_table s) (slice_index body 0) (slice_index body 1) ≡ true))
Condition WrongCount s bs = (Finished s → ⊥) × ((body : List ℕ) × Begins End body bs × (256 * slice_index body 0 + slice_index body 1 ≢ s.pairs))
Condition TrailingBytes s bs = Finished s × (bs ≢ [])

-- where a fault is reported: at the file's length for 1, and otherwise where the faulty record begins
abbrev pub place_of : Refusal → ℕ → List ℕ → ℕ
place_of x place bs = cond (nat_le (number_of x) 1) (place + length bs) place

-- f is the fault of the record with which the bytes begin, at the place `from`: its condition holds, and that of no lower number
pub record FaultAt (s : State) (from : ℕ) (bs : List ℕ) (f : Fault) : Type 0 where
  pub holds : Condition f.refusal s bs
  pub lowest : (x : Refusal) → number_of x < number_of f.refusal → Condition x s bs → ⊥
  pub layer : f.layer ≡ layer_of f.refusal
  pub place : f.place ≡ place_of f.refusal from bs

-- the bytes of the record that says an item
abbrev pub item_bytes : Item → List ℕ
item_bytes (head p t) = 1 ∷ 1 ∷ p ∷ t ∷ []
item_bytes (point e) = point_bytes e
item_bytes (table l h) = 3 ∷ l ∷ h ∷ []
item_bytes (pair i j) = 4 ∷ i ∷ j ∷ []
item_bytes (end n) = end_bytes n

-- the record that says an item is in order by itself
abbrev pub Fits : Item → Type 0
Fits (head p t) = PointsWithin p × (t ≤ most_tables)
Fits (point e) = EntryWithin e
Fits (table l h) = l < h
Fits (pair i j) = Unit {0}
Fits (end n) = n < 65536

-- each record is in order by itself, and nothing is wrong with it where it stands
abbrev pub AllPass : State → List Item → Type 0
AllPass s [] = Unit {0}
AllPass s (x ∷ xs) = Fits x × (objection s x ≡ None) × AllPass (after s x) xs

-- what is known after records
abbrev pub after_all : State → List Item → State
after_all s [] = s
after_all s (x ∷ xs) = after_all (after s x) xs

-- a file is refused with a fault exactly when, after records with which nothing is wrong, it is the fault of the next record:
-- the first faulty record decides, lowest number first
abbrev pub FirstFaultDecides : Type 0
FirstFaultDecides =
    (bs : List ℕ) (f : Fault) → AreBytes bs →
    (read_file bs ≡ Err f →
    (xs : List Item) × (rest : List ℕ) × (bs ≡ flat_map item_bytes xs ++ rest) × AllPass start xs ×
    FaultAt (after_all start xs) (length (flat_map item_bytes xs)) rest f) ×
    ((xs : List Item) (rest : List ℕ) → bs ≡ flat_map item_bytes xs ++ rest → AllPass start xs →
    FaultAt (after_all start xs) (length (flat_map item_bytes xs)) rest f → read_file bs ≡ Err f)
