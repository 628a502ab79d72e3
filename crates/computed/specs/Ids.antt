-- The clause that an identifier names.
use Rattle.std.specs.Prelude.{ℕ, List, [], ◌∷◌}
use Rattle.theory.specs.Encodings.{some_clause}
use Rattle.network.specs.Points.{counts_of}
use Rattle.partners.specs.Ends.{support_of}
use Rattle.computed.specs.declared.id.ClauseId.{ClauseId}
use Rattle.computed.specs.declared.id.ClauseId.TheVariants.{SomeOf, Two, Support}

-- the literals of the clause
abbrev pub clause_of : ClauseId → List ℕ
clause_of (SomeOf ps p) = some_clause (counts_of ps.now) p
clause_of (Two l m) = l ∷ m ∷ []
clause_of (Support e i) = support_of e i
