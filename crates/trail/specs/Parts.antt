-- The parts of a trail that contracts speak of.
use Rattle.std.specs.Prelude.{ℕ, List, vec_items, vec_len}
use Rattle.trail.specs.declared.trail.Trail.{Trail}

-- the literals, in the order in which they were reached
abbrev pub literals_of : Trail → List ℕ
literals_of t = vec_items t.literals

-- how many values have a mark
abbrev pub values_of : Trail → ℕ
values_of t = vec_len t.marks
