-- The state by which contracts speak of a propagator.
use Rattle.std.specs.Prelude.{◌≡◌, ℕ, ◌-◌, Bool, cond, List, [], ◌∷◌, ◌++◌, map, length, take, Some, None, Option, nat_lt, vec_items}
use Rattle.std.specs.List.{range_with_len}
use Rattle.theory.specs.declared.Mark.{Mark}
use Rattle.theory.specs.declared.Mark.TheVariants.{Open}
use Rattle.theory.specs.Marks.{clashed, mark}
use Rattle.clause_store.specs.Contents.{clauses_of}
use Rattle.propagator.specs.declared.propagator.Propagator.{Propagator}
use Rattle.propagator.specs.Decisions.{literals_in}

-- how many values there are, the clauses, and the decisions that stand, the latest last
pub record State : Type 0 where
  pub values : ℕ
  pub clauses : List (List ℕ)
  pub decisions : List ℕ

-- the state of a propagator
abbrev pub state_of : Propagator → State
state_of p = record { values = p.store.values; clauses = clauses_of p.store; decisions = literals_in (vec_items p.decisions) }

-- whether the decisions clash
abbrev pub has_clash : State → Bool
has_clash s = clashed s.clauses s.values s.decisions

-- the mark of the value v under the decisions
abbrev pub mark_in : State → ℕ → Mark
mark_in s v = mark s.clauses s.values s.decisions v

-- the marks of all values, in order: nothing in a clash
abbrev pub known_marks : State → Option (List Mark)
known_marks s = cond (has_clash s) None (Some (map (mark_in s) (range_with_len 0 s.values)))

-- the mark of the value v: nothing in a clash, and nothing where there is no such value
abbrev pub known_mark : State → ℕ → Option Mark
known_mark s v = cond (has_clash s) None (cond (nat_lt v s.values) (Some (mark_in s v)) None)

-- there is no clash, and some value is open
abbrev pub SomeOpen : State → Type 0
SomeOpen s = (v : ℕ) × (known_mark s v ≡ Some Open)

-- the state with one decision more
abbrev pub with_decision : State → ℕ → State
with_decision s l = record { values = s.values; clauses = s.clauses; decisions = s.decisions ++ l ∷ [] }

-- the state without its last decision
abbrev pub without_last : State → State
without_last s = record { values = s.values; clauses = s.clauses; decisions = take (length s.decisions - 1) s.decisions }
