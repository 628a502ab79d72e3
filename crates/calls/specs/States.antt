-- What a session stands on, and what its reached set says.
use Rattle.std.specs.Prelude.{ℕ, Bool, List, [], length, nat_lt}
use Rattle.theory.specs.declared.Mark.{Mark}
use Rattle.theory.specs.Marks.{clashed, mark}
use Rattle.theory.specs.Numbering.{count, total, number}
use Rattle.network.specs.Points.{Entry, values_of}

-- the points, the clauses, and the standing decisions in their order, as literals
pub record State : Type 0 where
  pub points : List Entry
  pub clauses : List (List ℕ)
  pub decisions : List ℕ

-- the session that was never opened: no point, no clause, no decision
abbrev pub unopened : State
unopened = record { points = []; clauses = []; decisions = [] }

-- the value counts of the points
abbrev pub counts_of : State → List ℕ
counts_of s = values_of s.points

-- whether the reached set of the decisions holds a literal and its opposite
abbrev pub is_clashed : State → Bool
is_clashed s = clashed s.clauses (total (counts_of s)) s.decisions

-- the mark of the value v of the point p
abbrev pub mark_at : State → ℕ → ℕ → Mark
mark_at s p v = mark s.clauses (total (counts_of s)) s.decisions (number (counts_of s) p v)

-- whether there is a point p
abbrev pub has_point : State → ℕ → Bool
has_point s p = nat_lt p (length s.points)

-- whether there is a value v of a point p
abbrev pub has_value : State → ℕ → ℕ → Bool
has_value s p v = nat_lt v (count (counts_of s) p)

-- the same points and clauses under other decisions
abbrev pub under : State → List ℕ → State
under s ds = record { points = s.points; clauses = s.clauses; decisions = ds }
