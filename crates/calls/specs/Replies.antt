-- The answer or the refusal that each call gets, by what stands. The checks are written in their order.
use Rattle.std.specs.Prelude.{ℕ, Bool, true, false, cond, not, List, [], ◌∷◌, ◌++◌, length, Some, None, Ok, Err, filter, Option, Result, nat_lt}
use Rattle.theory.specs.declared.Mark.{Mark}
use Rattle.theory.specs.declared.Mark.TheVariants.{In, Out, Open}
use Rattle.theory.specs.Literals.{is_in, is_out}
use Rattle.theory.specs.Numbering.{number, values}
use Rattle.calls.specs.declared.call.Decided.{Decided}
use Rattle.calls.specs.declared.call.Decided.TheVariants.{Taken, Clash, Already}
use Rattle.calls.specs.declared.refusal.CallRefusal.{CallRefusal}
use Rattle.calls.specs.declared.refusal.CallRefusal.TheVariants.{NoSuch, MarkedOut, MarkedIn, TooMany, Clashed, NothingToWithdraw}
use Rattle.calls.specs.States.{State, counts_of, is_clashed, mark_at, has_point, has_value, under}

-- the most decisions that may stand
abbrev pub most_decisions : ℕ
most_decisions = 768

-- refused where there is no such point or value, then where there is a clash; otherwise as given
abbrev pub checked : {A : Type 0} → Bool → Bool → Result A CallRefusal → Result A CallRefusal
checked there clash r = cond there (cond clash (Err Clashed) r) (Err NoSuch)

-- a literal is decided: refused where as many decisions stand as may; otherwise it is a clash or it is taken, by what is reached with it
abbrev pub decide_reply : State → ℕ → Result Decided CallRefusal
decide_reply s l = cond (nat_lt (length s.decisions) most_decisions) (Ok (cond (is_clashed (under s (s.decisions ++ l ∷ []))) Clash Taken)) (Err TooMany)

-- choosing a value, by its mark
abbrev pub choose_marked : State → ℕ → Mark → Result Decided CallRefusal
choose_marked s n In = Ok Already
choose_marked s n Out = Err MarkedOut
choose_marked s n Open = decide_reply s (is_in n)

-- barring a value, by its mark
abbrev pub bar_marked : State → ℕ → Mark → Result Decided CallRefusal
bar_marked s n In = Err MarkedIn
bar_marked s n Out = Ok Already
bar_marked s n Open = decide_reply s (is_out n)

-- the answer to choosing the value v of the point p
abbrev pub choose_reply : State → ℕ → ℕ → Result Decided CallRefusal
choose_reply s p v = checked (has_value s p v) (is_clashed s) (choose_marked s (number (counts_of s) p v) (mark_at s p v))

-- the answer to barring it
abbrev pub bar_reply : State → ℕ → ℕ → Result Decided CallRefusal
bar_reply s p v = checked (has_value s p v) (is_clashed s) (bar_marked s (number (counts_of s) p v) (mark_at s p v))

-- the answer to withdrawing: refused where no decision stands
abbrev pub withdraw_reply : State → Result (Unit {0}) CallRefusal
withdraw_reply s = cond (nat_lt 0 (length s.decisions)) (Ok tt) (Err NothingToWithdraw)

-- the answer to the question for a mark
abbrev pub mark_reply : State → ℕ → ℕ → Result Mark CallRefusal
mark_reply s p v = checked (has_value s p v) (is_clashed s) (Ok (mark_at s p v))

-- whether a mark is out
abbrev pub marks_out : Mark → Bool
marks_out In = false
marks_out Out = true
marks_out Open = false

-- whether a mark is in
abbrev pub marks_in : Mark → Bool
marks_in In = true
marks_in Out = false
marks_in Open = false

-- the answer to the question how many values of a point are not out
abbrev pub left_reply : State → ℕ → Result ℕ CallRefusal
left_reply s p = checked (has_point s p) (is_clashed s) (Ok (length (filter (λ v. not (marks_out (mark_at s p v))) (values (counts_of s) p))))

-- the first number of a list that passes a test
abbrev pub first_of : (ℕ → Bool) → List ℕ → Option ℕ
first_of test [] = None
first_of test (x ∷ xs) = cond (test x) (Some x) (first_of test xs)

-- the answer to the question for the value of a point that is in: the lowest of several
abbrev pub value_reply : State → ℕ → Result (Option ℕ) CallRefusal
value_reply s p = checked (has_point s p) (is_clashed s) (Ok (first_of (λ v. marks_in (mark_at s p v)) (values (counts_of s) p)))

-- how many decisions stand
abbrev pub decisions_reply : State → ℕ
decisions_reply s = length s.decisions

-- whether there is a clash
abbrev pub clash_reply : State → Bool
clash_reply s = is_clashed s
