-- The numbers of the refusals of a session's calls.
use Rattle.std.specs.Prelude.{ℕ}
use Rattle.calls.specs.declared.refusal.CallRefusal.{CallRefusal}
use Rattle.calls.specs.declared.refusal.CallRefusal.TheVariants.{NoSuch, MarkedOut, MarkedIn, TooMany, Clashed, NothingToWithdraw}

-- the number that is printed for a refusal
abbrev pub number_of : CallRefusal → ℕ
number_of NoSuch = 12
number_of MarkedOut = 13
number_of MarkedIn = 14
number_of TooMany = 15
number_of Clashed = 16
number_of NothingToWithdraw = 17
