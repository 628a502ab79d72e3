-- What a literal and the mark of its value say of each other.
use Rattle.std.specs.Prelude.{ℕ, ◌%◌, Bool, cond, Some, None, Option, ◌==◌}
use Rattle.theory.specs.declared.Mark.{Mark}
use Rattle.theory.specs.declared.Mark.TheVariants.{In, Out, Open}

-- in where the literal says that its value is in, and out where it says that it is out
abbrev pub mark_given : ℕ → Mark
mark_given l = cond (l % 2 == 0) In Out

-- whether a literal is true where its value has the mark
abbrev pub truth_by : Mark → ℕ → Option Bool
truth_by Open l = None
truth_by In l = Some (l % 2 == 0)
truth_by Out l = Some (l % 2 == 1)
