-- No point has more than 16 values.
use Rattle.std.proofs.Common.{ℕ, zero, suc, ◌<◌, ◌≤◌, List, [], ◌∷◌, vec_items, arith}
use Rattle.theory.specs.Numbering.{count}
use Rattle.network.specs.declared.point.Point.{Point}
use Rattle.network.specs.declared.points.PointList.{PointList}
use Rattle.network.specs.Bounds.{most_values}
use Rattle.network.specs.Points.{entries, values_of, counts_of}

count_bound : (ps : List Point) (p : ℕ) → count (values_of (entries ps)) p ≤ most_values
count_bound [] p = omega arith
count_bound (q ∷ ps) zero = omega (arith, q.within)
count_bound (q ∷ ps) (suc p) = count_bound ps p

pub value_bound : (ps : PointList) (p i : ℕ) → i < count (counts_of ps) p → i < most_values
value_bound ps p i h = omega (arith, count_bound (vec_items ps.points) p)
