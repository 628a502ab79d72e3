-- Every network keeps its bounds, so the laws hold of it.
use Rattle.std.proofs.Common.{ℕ, zero, suc, ◌*◌, ◌<◌, ◌≤◌, List, [], ◌∷◌, length, vec_items, arith}
use mathlib.Core.HLevel.{Π_prop}
use mathlib.Core.Logic.{∥∥₁_elim}
use denote.Struct.Props.{props}
use Rattle.std.proofs.lemmas.List.{length-map}
use Rattle.theory.specs.Numbering.{count, total}
use Rattle.theory.specs.Network.{Proper}
use Rattle.network.specs.declared.network.Network.{Network}
use Rattle.network.specs.declared.point.Point.{Point}
use Rattle.network.specs.declared.points.PointList.{PointList}
use Rattle.network.specs.Bounds.{most_points, most_values, most_tables}
use Rattle.network.specs.Contents.{meaning}
use Rattle.network.specs.Points.{counts_of, entries, values_of}
use Rattle.network.specs.Tables.{table_of, tables_of, TableWithin-prop, TablesWithin}
use Rattle.network.proofs.Lookups.{length_counts}

-- the tables of a network are within its points
pub within_of : (n : Network) → TablesWithin (counts_of n.points) (tables_of (vec_items n.tables))
within_of n = ∥∥₁_elim n.within (Π_prop (λ t. Π_prop (λ _. TableWithin-prop (hlevel props) (hlevel props) (hlevel props)))) (λ w. w)

-- each point has a value
valued_points : (ps : List Point) (p : ℕ) → p < length (values_of (entries ps)) → 1 ≤ count (values_of (entries ps)) p
valued_points [] p h = absurd (omega arith)
valued_points (q ∷ ps) zero h = q.within.0
valued_points (q ∷ ps) (suc p) h = valued_points ps p (omega arith)

pub proper : (n : Network) → Proper (meaning n)
proper n =
    record {
      valued = valued_points (vec_items n.points.points);
      joins = λ t i. let w = within_of n t i in (w.ascends, w.inside);
    }

-- no point has more values than a point can have
pub few_values : (ps : List Point) (p : ℕ) → count (values_of (entries ps)) p ≤ most_values
few_values [] p = omega arith
few_values (q ∷ ps) zero = q.within.1
few_values (q ∷ ps) (suc p) = few_values ps p

-- the values of so many points
pub few_total : (ps : List Point) → total (values_of (entries ps)) ≤ most_values * length ps
few_total [] = omega arith
few_total (q ∷ ps) = omega (arith, q.within.1, few_total ps)

pub few_points : (l : PointList) → length (counts_of l) ≤ most_points
few_points l = omega (arith, length_counts (vec_items l.points), l.within, l.points.ok.0)

pub few_tables : (n : Network) → length (meaning n).tables ≤ most_tables
few_tables n = omega (arith, length-map (vec_items n.tables) table_of, n.few, n.tables.ok.0)
