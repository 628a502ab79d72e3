-- The bounds that every network keeps.
use Rattle.std.specs.Prelude.{ℕ, ◌<◌, ◌≤◌, List, length, slice_index}

-- the most points of a network
abbrev pub most_points : ℕ
most_points = 48

-- the most values of a point
abbrev pub most_values : ℕ
most_values = 16

-- the most tables of a network
abbrev pub most_tables : ℕ
most_tables = 64

-- a byte that a label may have: a space, or a printed character of ASCII
abbrev pub Printable : ℕ → Type 0
Printable b = (32 ≤ b) × (b ≤ 126)

-- a point has 1 to 16 values and a label of printable bytes
abbrev pub PointWithin : ℕ → List ℕ → Type 0
PointWithin n label = (1 ≤ n) × (n ≤ most_values) × ((k : ℕ) → k < length label → Printable (slice_index label k))

-- there are 1 to 48 points
abbrev pub PointsWithin : ℕ → Type 0
PointsWithin n = (1 ≤ n) × (n ≤ most_points)
