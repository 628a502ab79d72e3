-- The better of two stored halves.
use Rattle.std.specs.Prelude.{◌≡◌, ℕ, cond, List, take, Ok, Err, Result, nat_lt}
use Rattle.theory.specs.declared.Side.{Side}
use Rattle.theory.specs.declared.Side.TheVariants.{Lower, Higher}
use Rattle.theory.specs.Encodings.{scores}
use Rattle.books.specs.declared.halves.Half.{Half}
use Rattle.books.specs.declared.refusal.WordsRefusal.{WordsRefusal}
use Rattle.books.specs.declared.refusal.WordsRefusal.TheVariants.{TooFewWords, NotStored}
use Rattle.books.specs.Stored.{count_of, start_of, clauses_of, IsStored}

-- where a stored book ends: behind its last clause, or behind the count where it has none
abbrev pub book_end : List ℕ → ℕ
book_end ws = start_of ws (count_of ws)

-- the side of the stored half with the higher sum of scores: the lower on equal sums
abbrev pub better_of : List ℕ → List ℕ → Side
better_of low high = cond (nat_lt (scores (clauses_of low)) (scores (clauses_of high))) Higher Lower

-- the words of one side
abbrev pub side_of : Side → List ℕ → List ℕ → List ℕ
side_of Lower low high = low
side_of Higher low high = high

-- the better half, from word 0 to its book's end; refused exactly where one of the two is no stored book
abbrev pub Better : List ℕ → List ℕ → Result Half WordsRefusal → Type 0
Better low high (Ok h) =
    IsStored low × IsStored high × (h.side ≡ better_of low high) ×
    (h.words.now ≡ take (book_end (side_of (better_of low high) low high)) (side_of (better_of low high) low high))
Better low high (Err NotStored) = IsStored low → IsStored high → ⊥
Better low high (Err (TooFewWords n)) = ⊥
