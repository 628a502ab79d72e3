-- What one end of a table says: the partners and the support clauses of the values of its near point.
use Rattle.std.specs.Prelude.{ℕ, List, filter}
use Rattle.theory.specs.Encodings.{support_clause, half}
use Rattle.theory.specs.Network.{far, partner}
use Rattle.theory.specs.Numbering.{values}
use Rattle.network.specs.Points.{counts_of}
use Rattle.network.specs.Tables.{table_of}
use Rattle.partners.specs.declared.ends.End.{End}

-- the partners of the value i at the other end, ascending
abbrev pub partners_of : End → ℕ → List ℕ
partners_of e i = let t = table_of e.table.now in filter (partner e.side t i) (values (counts_of e.points.now) (far e.side t))

-- the support clause of the value i
abbrev pub support_of : End → ℕ → List ℕ
support_of e i = support_clause (counts_of e.points.now) e.side (table_of e.table.now) i

-- the half of the table's support clauses for this end
abbrev pub half_of : End → List (List ℕ)
half_of e = half (counts_of e.points.now) e.side (table_of e.table.now)
