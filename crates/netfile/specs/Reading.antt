-- The network layer: what may come next, what a record may say there, and the network that a file lists.
use Rattle.std.specs.Prelude.{ℕ, zero, suc, ◌+◌, ◌-◌, Bool, false, cond, ◌&&◌, ◌||◌, List, [], ◌∷◌, ◌++◌, length, Some, None, Ok, Err, Option, Result, ◌==◌, nat_lt, slice_index_or, slice_set}
use Rattle.theory.specs.Network.{Table as TableMeaning, allows}
use Rattle.theory.specs.Numbering.{count}
use Rattle.network.specs.declared.refusal.Refusal.{Refusal}
use Rattle.network.specs.declared.refusal.Refusal.TheVariants.{Truncated, Misplaced, MissingPoint, MissingValue, RepeatedPair, WrongCount, TrailingBytes}
use Rattle.network.specs.Contents.{Contents}
use Rattle.network.specs.Points.{Entry, values_of}
use Rattle.network.specs.Tables.{no_pairs, with_allowed}
use Rattle.netfile.specs.declared.fault.Fault.{Fault}
use Rattle.netfile.specs.declared.fault.Layer.TheVariants.{Byte, Network as NetworkLayer}
use Rattle.netfile.specs.declared.record.Kind.{Kind}
use Rattle.netfile.specs.declared.record.Kind.TheVariants.{Head, Point, Table, Pair, End}
use Rattle.netfile.specs.declared.record.Expectation.{Expectation}
use Rattle.netfile.specs.declared.record.Expectation.TheVariants.{Start, Points, Tables, Pairs, Nothing}
use Rattle.netfile.specs.Faults.{fault_in}
use Rattle.netfile.specs.Bytes.{code_of, body_length}
use Rattle.netfile.specs.Records.{Item, head, point, table, pair, end, kind_of_item, record_at}

-- what the records so far have said
pub record State : Type 0 where
  pub expect : Expectation
  pub announced_points : ℕ
  pub announced_tables : ℕ
  pub points : List Entry
  pub tables : List TableMeaning
  pub pairs : ℕ

-- before the first record
abbrev pub start : State
start = record { expect = Start; announced_points = 0; announced_tables = 0; points = []; tables = []; pairs = 0 }

-- the next table while some are announced and not listed, and otherwise the end
abbrev pub table_or_end : State → List Kind
table_or_end s = cond (nat_lt (length s.tables) s.announced_tables) (Table ∷ []) (End ∷ [])

-- the kinds of record that may come next: the head, then all announced points, then each announced table with its pairs, then the end
abbrev pub may_come : Expectation → State → List Kind
may_come Start s = Head ∷ []
may_come Points s = Point ∷ []
may_come Tables s = table_or_end s
may_come Pairs s = Pair ∷ table_or_end s
may_come Nothing s = []

-- whether a kind stands in a list
abbrev pub has_kind : List Kind → Kind → Bool
has_kind [] k = false
has_kind (x ∷ xs) k = code_of x == code_of k || has_kind xs k

-- a table that allows nothing yet
abbrev pub empty_table : ℕ → ℕ → TableMeaning
empty_table l h = record { low = l; high = h; rows = no_pairs }

-- the last of the tables
abbrev pub last_of : List TableMeaning → TableMeaning
last_of ts = slice_index_or ts (length ts - 1) (empty_table 0 0)

-- the table that the last table record began
abbrev pub last_table : State → TableMeaning
last_table s = last_of s.tables

-- the tables with one more pair of the last one allowed
abbrev pub allow_last : List TableMeaning → ℕ → ℕ → List TableMeaning
allow_last ts i j = slice_set ts (length ts - 1) (with_allowed (last_of ts) i j)

-- whether the points of the last table have these values
abbrev pub has_values : State → ℕ → ℕ → Bool
has_values s i j =
    nat_lt i (count (values_of s.points) (last_table s).low) && nat_lt j (count (values_of s.points) (last_table s).high)

-- what is wrong with a record that may come here, if anything
abbrev pub objection_to : State → Item → Option Refusal
objection_to s (head p t) = None
objection_to s (point e) = None
objection_to s (table l h) = cond (nat_lt h (length s.points)) None (Some MissingPoint)
objection_to s (pair i j) = cond (has_values s i j) (cond (allows (last_table s) i j) (Some RepeatedPair) None) (Some MissingValue)
objection_to s (end n) = cond (n == s.pairs) None (Some WrongCount)

-- what is wrong with a record here, if anything
abbrev pub objection : State → Item → Option Refusal
objection s x = cond (has_kind (may_come s.expect s) (kind_of_item x)) (objection_to s x) (Some Misplaced)

-- what is known after a record
abbrev pub after : State → Item → State
after s (head p t) = record { expect = Points; announced_points = p; announced_tables = t; points = s.points; tables = s.tables; pairs = s.pairs }
after s (point e) =
    record {
      expect = cond (nat_lt (length s.points + 1) s.announced_points) Points Tables;
      announced_points = s.announced_points;
      announced_tables = s.announced_tables;
      points = s.points ++ e ∷ [];
      tables = s.tables;
      pairs = s.pairs;
    }
after s (table l h) =
    record {
      expect = Pairs;
      announced_points = s.announced_points;
      announced_tables = s.announced_tables;
      points = s.points;
      tables = s.tables ++ empty_table l h ∷ [];
      pairs = s.pairs;
    }
after s (pair i j) =
    record {
      expect = Pairs;
      announced_points = s.announced_points;
      announced_tables = s.announced_tables;
      points = s.points;
      tables = allow_last s.tables i j;
      pairs = s.pairs + 1;
    }
after s (end n) =
    record {
      expect = Nothing;
      announced_points = s.announced_points;
      announced_tables = s.announced_tables;
      points = s.points;
      tables = s.tables;
      pairs = s.pairs;
    }

-- the item where nothing is wrong with it
abbrev pub unless : ℕ → Option Refusal → Item → Result Item Fault
unless place None x = Ok x
unless place (Some r) x = Err (fault_in NetworkLayer place r)

-- the network layer after the record layer
abbrev pub admitted : State → ℕ → Result Item Fault → Result Item Fault
admitted s place (Ok x) = unless place (objection s x) x
admitted s place (Err f) = Err f

-- what the next record says, through all three layers; the bytes that are left begin at the place
abbrev pub next_at : Expectation → State → ℕ → List ℕ → Result Item Fault
next_at Start s place bs = admitted s place (record_at place bs)
next_at Points s place bs = admitted s place (record_at place bs)
next_at Tables s place bs = admitted s place (record_at place bs)
next_at Pairs s place bs = admitted s place (record_at place bs)
next_at Nothing s place bs = Err (fault_in NetworkLayer place TrailingBytes)

-- the network that was listed
abbrev pub contents : State → Contents
contents s = record { points = s.points; tables = s.tables }

-- at the file's end: the network if the end record came, and otherwise the file stopped too early
abbrev pub at_end : Expectation → State → ℕ → Result Contents Fault
at_end Start s place = Err (fault_in Byte place Truncated)
at_end Points s place = Err (fault_in Byte place Truncated)
at_end Tables s place = Err (fault_in Byte place Truncated)
at_end Pairs s place = Err (fault_in Byte place Truncated)
at_end Nothing s place = Ok (contents s)

-- going on after a record, or stopping at a fault
abbrev pub go_on : Result Item Fault → (Item → Result Contents Fault) → Result Contents Fault
go_on (Ok x) f = f x
go_on (Err e) f = Err e

-- what the bytes from the place on list: it passes over what is left of the record that was read, then reads the next
abbrev pub read_from : State → ℕ → ℕ → List ℕ → Result Contents Fault
read_from s place over [] = at_end s.expect s place
read_from s place zero (b ∷ bs) =
    go_on (next_at s.expect s place (b ∷ bs)) (λ x. read_from (after s x) (place + 1) (body_length (kind_of_item x)) bs)
read_from s place (suc k) (b ∷ bs) = read_from s (place + 1) k bs

-- the network that a file lists, or why it is refused, in which layer and where
abbrev pub read_file : List ℕ → Result Contents Fault
read_file bs = read_from start 0 0 bs
