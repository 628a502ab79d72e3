-- What is written for the answers to the calls of a session.
use Rattle.std.specs.Prelude.{ℕ, Bool, true, false, List, Some, None, Ok, Err, codes, decimal, Option, Result}
use Rattle.theory.specs.Names.{mark_name, refusal_text}
use Rattle.calls.specs.Names.{decided_name}
use Rattle.calls.specs.Refusals.{number_of}
use Rattle.calls.specs.declared.call.Exchange.{Exchange}
use Rattle.calls.specs.declared.call.Exchange.TheVariants.{Choose, Bar, Withdraw, Mark, Left, Value, Decisions, Clash}
use Rattle.calls.specs.declared.refusal.CallRefusal.{CallRefusal}

-- the text of what was answered, or the number of the refusal
abbrev pub or_refused : {X : Type 0} → (X → List ℕ) → Result X CallRefusal → List ℕ
or_refused text (Ok x) = text x
or_refused text (Err refusal) = refusal_text (number_of refusal)

-- that a decision was taken back
abbrev pub done_text : Unit {0} → List ℕ
done_text _ = codes "done"

-- the value of a point, or that it has none
abbrev pub value_text : Option ℕ → List ℕ
value_text (Some v) = decimal v
value_text None = codes "none"

-- whether there is a clash
abbrev pub clash_text : Bool → List ℕ
clash_text true = codes "yes"
clash_text false = codes "no"

-- the answer to a call
abbrev pub answer_text : Exchange → List ℕ
answer_text (Choose p v reply) = or_refused decided_name reply
answer_text (Bar p v reply) = or_refused decided_name reply
answer_text (Withdraw reply) = or_refused done_text reply
answer_text (Mark p v reply) = or_refused mark_name reply
answer_text (Left p reply) = or_refused decimal reply
answer_text (Value p reply) = or_refused value_text reply
answer_text (Decisions count) = decimal count
answer_text (Clash clashed) = clash_text clashed
