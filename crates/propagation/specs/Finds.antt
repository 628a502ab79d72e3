-- What a trail's literals say of a clause.
use Rattle.std.specs.Prelude.{◌≡◌, ℕ, List, Some, None, Option, Ok, Err, Result, ◌≢◌}
use Rattle.theory.specs.Lists.{◌∈◌}
use Rattle.theory.specs.Literals.{opposite}
use Rattle.trail.specs.Truths.{truth_of}
use Rattle.propagation.specs.declared.conflict.Conflict.{Conflict}

-- t holds the opposites of the literals of c other than l
abbrev pub OthersFalse : List ℕ → List ℕ → ℕ → Type 0
OthersFalse t c l = (m : ℕ) → m ∈ c → (m ≢ l) → opposite m ∈ t

-- the clause c forces no literal that t lacks
abbrev pub Still : List ℕ → List ℕ → Type 0
Still t c = (l : ℕ) → l ∈ c → OthersFalse t c l → l ∈ t

-- all literals of c are false, or all but one, of which t says nothing
abbrev pub Only : List ℕ → List ℕ → Option ℕ → Type 0
Only t c None = (m : ℕ) → m ∈ c → opposite m ∈ t
Only t c (Some l) = (l ∈ c) × (truth_of t l ≡ None) × OthersFalse t c l

-- the clause c forces no literal that t lacks, or the one that is found, or all its literals are false
abbrev pub Finds : List ℕ → List ℕ → Result (Option ℕ) Conflict → Type 0
Finds t c (Ok None) = Still t c
Finds t c (Ok (Some l)) = Only t c (Some l)
Finds t c (Err e) = Only t c None
