-- Value numbers: the values of point 0, then those of point 1 and so on, counted from 0.
-- A network's points are given by their value counts, in order.
use Rattle.std.specs.Prelude.{ℕ, zero, suc, ◌+◌, ◌-◌, cond, List, [], ◌∷◌, length, Some, None, Option, nat_lt, slice_index}
use Rattle.std.specs.List.{range_with_len}

-- how many values the point p has: 0 where there is no such point
abbrev pub count : List ℕ → ℕ → ℕ
count ks p = slice_index ks p

-- how many values the points before p have
abbrev pub offset : List ℕ → ℕ → ℕ
offset [] p = 0
offset (k ∷ ks) zero = 0
offset (k ∷ ks) (suc p) = k + offset ks p

-- how many values there are, N
abbrev pub total : List ℕ → ℕ
total [] = 0
total (k ∷ ks) = k + total ks

-- the number of the value i of the point p
abbrev pub number : List ℕ → ℕ → ℕ → ℕ
number ks p i = offset ks p + i

-- the points, ascending
abbrev pub points : List ℕ → List ℕ
points ks = range_with_len 0 (length ks)

-- the values of the point p, ascending
abbrev pub values : List ℕ → ℕ → List ℕ
values ks p = range_with_len 0 (count ks p)

-- a place among later points, seen from one point earlier
abbrev pub later : Option (ℕ × ℕ) → Option (ℕ × ℕ)
later None = None
later (Some x) = Some (x.0 + 1, x.1)

-- the point and the value that have the number n: nothing from N on
abbrev pub place : List ℕ → ℕ → Option (ℕ × ℕ)
place [] n = None
place (k ∷ ks) n = cond (nat_lt n k) (Some (0, n)) (later (place ks (n - k)))
