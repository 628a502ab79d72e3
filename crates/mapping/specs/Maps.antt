-- What a map leaves in the caller's bytes, and what it answers.
use Rattle.std.specs.Prelude.{◌≡◌, ℕ, ◌-◌, List, [], ℤ, pos, negsuc, Ok, Err, Result}
use Rattle.theory.specs.declared.Encoding.TheVariants.{Support}
use Rattle.theory.specs.Encodings.{clauses}
use Rattle.network.specs.Contents.{Contents, unlabelled}
use Rattle.netfile.specs.declared.fault.Fault.{Fault}
use Rattle.calls.specs.States.{State}
use Rattle.page.specs.declared.refusal.PageRefusal.TheVariants.{TooShort as PageTooShort}
use Rattle.page.specs.Pages.{page_text}
use Rattle.page.specs.Writing.{Written}
use Rattle.mapping.specs.declared.error.MapError.{MapError}
use Rattle.mapping.specs.declared.error.MapError.TheVariants.{Refused, TooShort, OutOfMemory}
use Rattle.mapping.specs.Numbers.{number_of}

-- a session over a network's support clauses with no decision
abbrev pub opened : Contents → State
opened c = record { points = c.points; clauses = clauses Support (unlabelled c); decisions = [] }

-- the page of the network that the file lists is written; or the file's fault, a buffer that is too short,
-- or want of memory is answered, and nothing is written
abbrev pub Maps : Result Contents Fault → List ℕ → List ℕ → Result ℕ MapError → Type 0
Maps file old new (Ok n) = (c : Contents) × (file ≡ Ok c) × Written (page_text (opened c)) old new (Ok n)
Maps file old new (Err (Refused f)) = (file ≡ Err f) × (new ≡ old)
Maps file old new (Err TooShort) = (c : Contents) × (file ≡ Ok c) × Written (page_text (opened c)) old new (Err PageTooShort)
Maps file old new (Err OutOfMemory) = new ≡ old

-- the page's length, or the number of what went wrong with a minus sign
abbrev pub answer_of : Result ℕ MapError → ℤ
answer_of (Ok n) = pos n
answer_of (Err e) = negsuc (number_of e - 1)
