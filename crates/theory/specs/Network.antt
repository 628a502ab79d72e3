-- Networks, partners and solutions.
use Rattle.std.specs.Prelude.{◌≡◌, ℕ, ◌<◌, ◌≤◌, Bool, true, false, List, [], length, slice_index, slice_index_or}
use Rattle.theory.specs.declared.Side.{Side}
use Rattle.theory.specs.declared.Side.TheVariants.{Lower, Higher}
use Rattle.theory.specs.Lists.{◌∈◌}
use Rattle.theory.specs.Numbering.{count}

-- a table joins a lower and a higher point; row i, column j says whether
-- the lower point's value i and the higher point's value j may go together
pub record Table : Type 0 where
  pub low : ℕ
  pub high : ℕ
  pub rows : List (List Bool)

-- whether the table allows the pair of the lower point's value i and the higher point's value j
abbrev pub allows : Table → ℕ → ℕ → Bool
allows t i j = slice_index_or (slice_index_or t.rows i []) j false

-- a network by what its layouts depend on: the value count of each point, and the tables
pub record Network : Type 0 where
  pub counts : List ℕ
  pub tables : List Table

-- the point at one end of a table
abbrev pub near : Side → Table → ℕ
near Lower t = t.low
near Higher t = t.high

-- the point at the other end
abbrev pub far : Side → Table → ℕ
far Lower t = t.high
far Higher t = t.low

-- whether the value j of the other end is a partner of the value i of this end
abbrev pub partner : Side → Table → ℕ → ℕ → Bool
partner Lower t i j = allows t i j
partner Higher t i j = allows t j i

-- each point has a value, and each table joins a lower to a higher point of the network
pub record Proper (net : Network) : Type 0 where
  pub valued : (p : ℕ) → p < length net.counts → 1 ≤ count net.counts p
  pub joins : (t : Table) → t ∈ net.tables → (t.low < t.high) × (t.high < length net.counts)

-- a solution gives every point one value so that every table allows its pair
pub record Solution (net : Network) (vs : List ℕ) : Type 0 where
  pub one_each : length vs ≡ length net.counts
  pub valid : (p : ℕ) → p < length net.counts → slice_index vs p < count net.counts p
  pub allowed : (t : Table) → t ∈ net.tables → allows t (slice_index vs t.low) (slice_index vs t.high) ≡ true
