-- What a file is the written form of.
use Rattle.std.specs.Prelude.{◌≡◌, ℕ, ◌+◌, ◌/◌, ◌%◌, ◌<◌, ◌≤◌, Bool, false, ◌&&◌, ◌||◌, List, [], ◌∷◌, ◌++◌, map, length, Ok, ◌==◌}
use Rattle.std.specs.List.{range_with_len, flat_map}
use Rattle.theory.specs.Lists.{◌∈◌}
use Rattle.theory.specs.Network.{Table as TableMeaning}
use Rattle.theory.specs.Numbering.{count}
use Rattle.network.specs.Bounds.{most_values, most_tables, PointWithin, PointsWithin}
use Rattle.network.specs.Contents.{Contents}
use Rattle.network.specs.Points.{Entry, values_of}
use Rattle.netfile.specs.Reading.{read_file}

-- a table as it is listed: its ends, and its allowed pairs in any order
pub record TableListing : Type 0 where
  pub low : ℕ
  pub high : ℕ
  pub pairs : List (ℕ × ℕ)

-- a network as it is listed
pub record Listing : Type 0 where
  pub points : List Entry
  pub tables : List TableListing

-- no pair stands twice
abbrev pub Distinct : List (ℕ × ℕ) → Type 0
Distinct [] = Unit {0}
Distinct (x ∷ xs) = (x ∈ xs → ⊥) × Distinct xs

-- a point's value count and label are within the bounds
abbrev pub EntryWithin : Entry → Type 0
EntryWithin e = PointWithin e.values e.label × (length e.label ≡ 8)

-- a table joins a lower to a higher point, and lists pairs of their values, none twice
pub record ListedWithin (ks : List ℕ) (t : TableListing) : Type 0 where
  pub ascends : t.low < t.high
  pub inside : t.high < length ks
  pub of_values : (x : ℕ × ℕ) → x ∈ t.pairs → (x.0 < count ks t.low) × (x.1 < count ks t.high)
  pub distinct : Distinct t.pairs

-- the listing keeps the bounds
pub record ListingWithin (l : Listing) : Type 0 where
  pub points_within : PointsWithin (length l.points)
  pub each_point : (e : Entry) → e ∈ l.points → EntryWithin e
  pub tables_within : length l.tables ≤ most_tables
  pub each_table : (t : TableListing) → t ∈ l.tables → ListedWithin (values_of l.points) t

-- a point record
abbrev pub point_bytes : Entry → List ℕ
point_bytes e = 2 ∷ e.values ∷ e.label

-- a pair record
abbrev pub pair_bytes : ℕ × ℕ → List ℕ
pair_bytes x = 4 ∷ x.0 ∷ x.1 ∷ []

-- a table record and its pair records
abbrev pub table_bytes : TableListing → List ℕ
table_bytes t = 3 ∷ t.low ∷ t.high ∷ flat_map pair_bytes t.pairs

-- how many pairs tables list
abbrev pub pair_count : List TableListing → ℕ
pair_count [] = 0
pair_count (t ∷ ts) = length t.pairs + pair_count ts

-- an end record: the number of pair records, high byte first
abbrev pub end_bytes : ℕ → List ℕ
end_bytes n = 5 ∷ n / 256 ∷ n % 256 ∷ []

-- the written form of a listing: the head, the points, each table with its pairs, the end
abbrev pub written : Listing → List ℕ
written l =
    1 ∷ 1 ∷ length l.points ∷ length l.tables ∷
    (flat_map point_bytes l.points ++ (flat_map table_bytes l.tables ++ end_bytes (pair_count l.tables)))

-- whether a pair is listed
abbrev pub lists : List (ℕ × ℕ) → ℕ → ℕ → Bool
lists [] i j = false
lists (x ∷ xs) i j = (i == x.0 && j == x.1) || lists xs i j

-- one row of a table: which of the higher point's values are listed with the value i
abbrev pub row_of : List (ℕ × ℕ) → ℕ → List Bool
row_of ps i = map (lists ps i) (range_with_len 0 most_values)

-- the table that a listing of pairs says: the listed pairs are allowed, and no other
abbrev pub listed_table : TableListing → TableMeaning
listed_table t = record { low = t.low; high = t.high; rows = map (row_of t.pairs) (range_with_len 0 most_values) }

-- the network that a listing says
abbrev pub listed : Listing → Contents
listed l = record { points = l.points; tables = map listed_table l.tables }

-- each number is a byte
abbrev pub AreBytes : List ℕ → Type 0
AreBytes bs = (b : ℕ) → b ∈ bs → b < 256

-- a file is accepted exactly when it is the written form of a listing that keeps the bounds, and then the network is the listing's
abbrev pub AcceptsExactly : Type 0
AcceptsExactly =
    (bs : List ℕ) (c : Contents) → AreBytes bs →
    (read_file bs ≡ Ok c → (l : Listing) × ListingWithin l × (written l ≡ bs) × (listed l ≡ c)) ×
    ((l : Listing) → ListingWithin l → written l ≡ bs → listed l ≡ c → read_file bs ≡ Ok c)
