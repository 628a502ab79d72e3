-- The record layer: what a record says, and when it is in order by itself.
use Rattle.std.specs.Prelude.{ℕ, ◌+◌, ◌*◌, Bool, true, cond, ◌&&◌, List, [], ◌∷◌, drop, Ok, Err, Result, ◌==◌, nat_le, nat_lt, slice_index}
use Rattle.network.specs.declared.refusal.Refusal.{Refusal}
use Rattle.network.specs.declared.refusal.Refusal.TheVariants.{BadHead, BadPoint, BadTable}
use Rattle.network.specs.Bounds.{most_points, most_values, most_tables}
use Rattle.network.specs.Points.{Entry, entry_of}
use Rattle.netfile.specs.declared.fault.Fault.{Fault}
use Rattle.netfile.specs.declared.fault.Layer.TheVariants.{Record as RecordLayer}
use Rattle.netfile.specs.declared.record.Kind.{Kind}
use Rattle.netfile.specs.declared.record.Kind.TheVariants.{Head, Point, Table, Pair, End}
use Rattle.netfile.specs.declared.record.Record.{Record}
use Rattle.netfile.specs.declared.record.Record.TheVariants as program
use Rattle.netfile.specs.Faults.{fault_in}
use Rattle.netfile.specs.Bytes.{Raw, raw_at}

-- what a record says: how many points and tables there are, a point, a table's ends, a pair of values, how many pairs there were
pub data Item : Type 0 where
  head : ℕ → ℕ → Item
  point : Entry → Item
  table : ℕ → ℕ → Item
  pair : ℕ → ℕ → Item
  end : ℕ → Item

-- the same of a record as the program holds it
abbrev pub item_of : Record → Item
item_of (program.Head p t) = head p t
item_of (program.Point p) = point (entry_of p)
item_of (program.Table l h) = table l h
item_of (program.Pair i j) = pair i j
item_of (program.End n) = end n

-- the kind of record that says an item
abbrev pub kind_of_item : Item → Kind
kind_of_item (head p t) = Head
kind_of_item (point e) = Point
kind_of_item (table l h) = Table
kind_of_item (pair i j) = Pair
kind_of_item (end n) = End

-- each byte may stand in a label
abbrev pub printable : List ℕ → Bool
printable [] = true
printable (b ∷ bs) = (nat_le 32 b && nat_le b 126) && printable bs

-- version 1, 1 to 48 points, at most 64 tables
abbrev pub head_fits : List ℕ → Bool
head_fits body = slice_index body 0 == 1 && (nat_le 1 (slice_index body 1) && nat_le (slice_index body 1) most_points) && nat_le (slice_index body 2) most_tables

-- 1 to 16 values, and a label of printable bytes
abbrev pub point_fits : List ℕ → Bool
point_fits body = (nat_le 1 (slice_index body 0) && nat_le (slice_index body 0) most_values) && printable (drop 1 body)

-- the lower point is below the higher
abbrev pub table_fits : List ℕ → Bool
table_fits body = nat_lt (slice_index body 0) (slice_index body 1)

-- an answer whose refusal is a fault of the record layer at the place
abbrev pub at_place : {A : Type 0} → ℕ → Result A Refusal → Result A Fault
at_place place (Ok x) = Ok x
at_place place (Err r) = Err (fault_in RecordLayer place r)

-- the item where it is in order, and otherwise the refusal
abbrev pub in_order : ℕ → Bool → Refusal → Item → Result Item Fault
in_order place fits x item = cond fits (Ok item) (Err (fault_in RecordLayer place x))

-- what a whole record at the place says, or what is wrong with it
abbrev pub checked : ℕ → Kind → List ℕ → Result Item Fault
checked place Head body = in_order place (head_fits body) BadHead (head (slice_index body 1) (slice_index body 2))
checked place Point body = in_order place (point_fits body) BadPoint (point (record { values = slice_index body 0; label = drop 1 body }))
checked place Table body = in_order place (table_fits body) BadTable (table (slice_index body 0) (slice_index body 1))
checked place Pair body = Ok (pair (slice_index body 0) (slice_index body 1))
checked place End body = Ok (end (256 * slice_index body 0 + slice_index body 1))

-- the record layer after the byte layer
abbrev pub checked_raw : ℕ → Result Raw Fault → Result Item Fault
checked_raw place (Ok r) = checked place r.kind r.body
checked_raw place (Err f) = Err f

-- what the record at the front of the bytes says, which begin at the place
abbrev pub record_at : ℕ → List ℕ → Result Item Fault
record_at place bs = checked_raw place (raw_at place bs)
