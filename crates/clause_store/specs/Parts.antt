-- Lists that lie one behind another in one row.
use Rattle.std.specs.Prelude.{ℕ, ◌+◌, ◌-◌, List, map, length, slice_index, slice_range}
use Rattle.std.specs.List.{range_with_len}

-- the i-th of the parts that begin at the starts: it ends where the next begins
abbrev pub part_at : List ℕ → List ℕ → ℕ → List ℕ
part_at xs starts i = slice_range xs (slice_index starts i) (slice_index starts (i + 1))

-- the parts of a row, in order: the last start is where the last part ends
abbrev pub parts_of : List ℕ → List ℕ → List (List ℕ)
parts_of xs starts = map (part_at xs starts) (range_with_len 0 (length starts - 1))
