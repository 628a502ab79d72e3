-- The number of each refusal, as a surveyor meets it.
use Rattle.std.specs.Prelude.{ℕ}
use Rattle.network.specs.declared.refusal.Refusal.{Refusal}
use Rattle.network.specs.declared.refusal.Refusal.TheVariants.{Truncated, UnknownKind, BadHead, BadPoint, BadTable, Misplaced, MissingPoint, MissingValue, RepeatedPair, WrongCount, TrailingBytes}

-- the number that is printed for a refusal
abbrev pub number_of : Refusal → ℕ
number_of Truncated = 1
number_of UnknownKind = 2
number_of BadHead = 3
number_of BadPoint = 4
number_of BadTable = 5
number_of Misplaced = 6
number_of MissingPoint = 7
number_of MissingValue = 8
number_of RepeatedPair = 9
number_of WrongCount = 10
number_of TrailingBytes = 11
