-- The numbers of the refusals of calls on words.
use Rattle.std.specs.Prelude.{ℕ}
use Rattle.books.specs.declared.refusal.WordsRefusal.{WordsRefusal}
use Rattle.books.specs.declared.refusal.WordsRefusal.TheVariants.{TooFewWords, NotStored}
use Rattle.books.specs.declared.refusal.HalvesRefusal.{HalvesRefusal}
use Rattle.books.specs.declared.refusal.HalvesRefusal.TheVariants.{NoSuch, Words}

-- the number that is printed for a refusal
abbrev pub number_of : WordsRefusal → ℕ
number_of (TooFewWords n) = 18
number_of NotStored = 19

-- the number that is printed for a refusal of a table's halves
abbrev pub halves_number_of : HalvesRefusal → ℕ
halves_number_of NoSuch = 12
halves_number_of (Words refusal) = number_of refusal
