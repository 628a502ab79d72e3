-- Why a clause book is not opened.
use Rattle.std.specs.Prelude.{ℕ, List, Some, None, Option, Ok, Err, Result}
use Rattle.theory.specs.Names.{refusal_text, memory_text}
use Rattle.clause_store.specs.declared.error.OpenError.{OpenError}
use Rattle.clause_store.specs.declared.error.OpenError.TheVariants.{Unfit, OutOfMemory}
use Rattle.clause_store.specs.Fitness.{Fit}

-- the number that is printed: none where there was no memory
abbrev pub number_of : OpenError → Option ℕ
number_of Unfit = Some 20
number_of OutOfMemory = None

-- what is written for an error
abbrev pub open_error_text : OpenError → List ℕ
open_error_text Unfit = refusal_text 20
open_error_text OutOfMemory = memory_text

-- the error that says that there was no memory
abbrev pub out_of_memory : OpenError
out_of_memory = OutOfMemory

-- P where clauses are refused as unfit, and nothing where there was no memory
abbrev pub IfUnfit : OpenError → Type 0 → Type 0
IfUnfit Unfit P = P
IfUnfit OutOfMemory P = Unit {0}

-- an answer says P, a refusal as unfit that P does not hold, and one for want of memory nothing
abbrev pub HoldsExactly : {V : Type 0} → Type 0 → Result V OpenError → Type 0
HoldsExactly P (Ok v) = P
HoldsExactly P (Err e) = IfUnfit e (P → ⊥)

-- an answer says that the clauses are fit for n values, a refusal as unfit that they are not
abbrev pub FitsExactly : {V : Type 0} → ℕ → List (List ℕ) → Result V OpenError → Type 0
FitsExactly n cs r = HoldsExactly (Fit n cs) r
