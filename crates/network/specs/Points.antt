-- What a point list says: the value count and the label of each point.
use Rattle.std.specs.Prelude.{◌≡◌, ℕ, zero, suc, ◌<◌, ◌≤◌, cond, List, [], ◌∷◌, map, Some, None, vec_items, Option, nat_lt}
use Rattle.theory.specs.Numbering.{count, total, number}
use Rattle.network.specs.declared.point.Point.{Point}
use Rattle.network.specs.declared.points.PointList.{PointList}

-- a point as a file or a page shows it
pub record Entry : Type 0 where
  pub values : ℕ
  pub label : List ℕ

-- what a point says
abbrev pub entry_of : Point → Entry
entry_of p = record { values = p.values; label = p.label }

-- what each point says, in order
abbrev pub entries : List Point → List Entry
entries ps = map entry_of ps

-- the value counts of points
abbrev pub values_of : List Entry → List ℕ
values_of es = map (λ (e : Entry). e.values) es

-- what a point list says
abbrev pub points_of : PointList → List Entry
points_of ps = entries (vec_items ps.points)

-- the value counts of a point list
abbrev pub counts_of : PointList → List ℕ
counts_of ps = values_of (points_of ps)

-- the label of the point p: nothing where there is no such point
abbrev pub label_at : List Entry → ℕ → Option (List ℕ)
label_at [] p = None
label_at (e ∷ es) zero = Some e.label
label_at (e ∷ es) (suc p) = label_at es p

-- the number of the value i of the point p: nothing where there is no such value
abbrev pub number_at : List ℕ → ℕ → ℕ → Option ℕ
number_at ks p i = cond (nat_lt i (count ks p)) (Some (number ks p i)) None

-- a place that is found has the number n; where none is found, n is past the last value
abbrev pub Undone : List ℕ → ℕ → Option (ℕ × ℕ) → Type 0
Undone ks n None = total ks ≤ n
Undone ks n (Some x) = (x.1 < count ks x.0) × (number ks x.0 x.1 ≡ n)
