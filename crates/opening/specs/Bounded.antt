-- The clauses of a network within the bounds are fit for a session.
use Rattle.std.specs.Prelude.{ℕ, ◌≤◌, length}
use Rattle.theory.specs.declared.Encoding.{Encoding}
use Rattle.theory.specs.Encodings.{clauses}
use Rattle.theory.specs.Network.{Network, Proper}
use Rattle.theory.specs.Numbering.{count, total}
use Rattle.network.specs.Bounds.{most_points, most_values, most_tables}
use Rattle.clause_store.specs.Fitness.{Fit}

-- a network within the bounds has at most 48 points, each of 1 to 16 values, and at most 64 tables, each joining a lower to a higher point
pub record Bounded (net : Network) : Type 0 where
  pub proper : Proper net
  pub few_points : length net.counts ≤ most_points
  pub few_values : (p : ℕ) → count net.counts p ≤ most_values
  pub few_tables : length net.tables ≤ most_tables

-- the clauses of every network within the bounds, in every encoding, are fit for its values
abbrev pub AlwaysFit : Type 0
AlwaysFit = (e : Encoding) (net : Network) → Bounded net → Fit (total net.counts) (clauses e net)
