-- What a table says, and what every table of a network keeps.
use Rattle.std.specs.Prelude.{◌≡◌, ℕ, ◌<◌, Bool, true, false, List, [], map, length, replicate, slice_index_or, slice_set}
use Rattle.theory.specs.Lists.{◌∈◌}
use Rattle.theory.specs.Numbering.{count}
use Rattle.theory.specs.Network.{Table as TableMeaning, allows}
use Rattle.network.specs.declared.table.Table.{Table}
use Rattle.network.specs.Bounds.{most_values}

-- what a table says
abbrev pub table_of : Table → TableMeaning
table_of t = record { low = t.low; high = t.high; rows = t.rows }

-- what each table says, in order
abbrev pub tables_of : List Table → List TableMeaning
tables_of ts = map table_of ts

-- rows that allow no pair
abbrev pub no_pairs : List (List Bool)
no_pairs = replicate most_values (replicate most_values false)

-- the rows with one more pair allowed
abbrev pub allowing : List (List Bool) → ℕ → ℕ → List (List Bool)
allowing rows i j = slice_set rows i (slice_set (slice_index_or rows i []) j true)

-- the table with one more pair allowed
abbrev pub with_allowed : TableMeaning → ℕ → ℕ → TableMeaning
with_allowed t i j = record { low = t.low; high = t.high; rows = allowing t.rows i j }

-- the table joins a lower to a higher point, and allows only pairs of values that they have
pub record TableWithin (ks : List ℕ) (t : TableMeaning) : Type 0 where
  pub ascends : t.low < t.high
  pub inside : t.high < length ks
  pub of_values : (i j : ℕ) → allows t i j ≡ true → (i < count ks t.low) × (j < count ks t.high)
  deriving IsProp as TableWithin-prop

-- each table is within
abbrev pub TablesWithin : List ℕ → List TableMeaning → Type 0
TablesWithin ks ts = (t : TableMeaning) → t ∈ ts → TableWithin ks t
