-- Runs of calls with their answers, and the decisions that stand after them.
use Rattle.std.specs.Prelude.{◌≡◌, ℕ, ◌-◌, List, [], ◌∷◌, ◌++◌, length, take, Ok, Err, Result}
use Rattle.theory.specs.Literals.{is_in, is_out}
use Rattle.theory.specs.Numbering.{number}
use Rattle.network.specs.Points.{Entry, values_of}
use Rattle.calls.specs.declared.call.Call.{Call}
use Rattle.calls.specs.declared.call.Call.TheVariants as Asked
use Rattle.calls.specs.declared.call.Decided.{Decided}
use Rattle.calls.specs.declared.call.Decided.TheVariants.{Taken, Clash as Clashing, Already}
use Rattle.calls.specs.declared.call.Exchange.{Exchange}
use Rattle.calls.specs.declared.call.Exchange.TheVariants.{Choose, Bar, Withdraw, Mark, Left, Value, Decisions, Clash}
use Rattle.calls.specs.declared.refusal.CallRefusal.{CallRefusal}
use Rattle.calls.specs.States.{State}
use Rattle.calls.specs.Replies.{choose_reply, bar_reply, withdraw_reply, mark_reply, left_reply, value_reply, decisions_reply, clash_reply}

-- the call of an exchange
abbrev pub call_of : Exchange → Call
call_of (Choose p v r) = Asked.Choose p v
call_of (Bar p v r) = Asked.Bar p v
call_of (Withdraw r) = Asked.Withdraw
call_of (Mark p v r) = Asked.Mark p v
call_of (Left p r) = Asked.Left p
call_of (Value p r) = Asked.Value p
call_of (Decisions n) = Asked.Decisions
call_of (Clash b) = Asked.Clash

-- a decision answered taken or clash stands at the end; answered already or refused, it does not stand
abbrev pub after_decided : List ℕ → ℕ → Result Decided CallRefusal → List ℕ
after_decided ds l (Ok Taken) = ds ++ l ∷ []
after_decided ds l (Ok Clashing) = ds ++ l ∷ []
after_decided ds l (Ok Already) = ds
after_decided ds l (Err e) = ds

-- a withdraw answered done takes the last decision off
abbrev pub after_withdrawn : List ℕ → Result (Unit {0}) CallRefusal → List ℕ
after_withdrawn ds (Ok _) = take (length ds - 1) ds
after_withdrawn ds (Err e) = ds

-- the decisions that stand after one call and its answer; questions leave them as they are
abbrev pub stands_after : List ℕ → List ℕ → Exchange → List ℕ
stands_after ks ds (Choose p v r) = after_decided ds (is_in (number ks p v)) r
stands_after ks ds (Bar p v r) = after_decided ds (is_out (number ks p v)) r
stands_after ks ds (Withdraw r) = after_withdrawn ds r
stands_after ks ds (Mark p v r) = ds
stands_after ks ds (Left p r) = ds
stands_after ks ds (Value p r) = ds
stands_after ks ds (Decisions n) = ds
stands_after ks ds (Clash b) = ds

-- the decisions that stand after a run, where ds stood before
abbrev pub standing : List ℕ → List ℕ → List Exchange → List ℕ
standing ks ds [] = ds
standing ks ds (x ∷ xs) = standing ks (stands_after ks ds x) xs

-- what a session over these points and clauses stands on after a run from its opening
abbrev pub state_after : List Entry → List (List ℕ) → List Exchange → State
state_after ps cs xs = record { points = ps; clauses = cs; decisions = standing (values_of ps) [] xs }

-- the answer is the one that is defined for what stands
abbrev pub Right : State → Exchange → Type 0
Right s (Choose p v r) = r ≡ choose_reply s p v
Right s (Bar p v r) = r ≡ bar_reply s p v
Right s (Withdraw r) = r ≡ withdraw_reply s
Right s (Mark p v r) = r ≡ mark_reply s p v
Right s (Left p r) = r ≡ left_reply s p
Right s (Value p r) = r ≡ value_reply s p
Right s (Decisions n) = n ≡ decisions_reply s
Right s (Clash b) = b ≡ clash_reply s

-- each call of a run from the opening gets the answer that is defined for the decisions that stand when it is made
abbrev pub Exact : List Entry → List (List ℕ) → List Exchange → Type 0
Exact ps cs xs = (before : List Exchange) (x : Exchange) (behind : List Exchange) → xs ≡ before ++ x ∷ behind → Right (state_after ps cs before) x
