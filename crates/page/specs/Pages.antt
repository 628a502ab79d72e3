-- The page of a session: a line a point, or the word for a clash.
use Rattle.std.specs.Prelude.{ℕ, cond, List, [], ◌++◌, map, codes}
use Rattle.std.specs.List.{flat_map}
use Rattle.std.specs.Option.{unwrap_or}
use Rattle.theory.specs.declared.Mark.{Mark}
use Rattle.theory.specs.declared.Mark.TheVariants.{In, Out, Open}
use Rattle.theory.specs.Numbering.{points, values}
use Rattle.network.specs.Points.{label_at}
use Rattle.calls.specs.States.{State, counts_of, is_clashed, mark_at}

-- the sign of a mark, as a byte: `+`, `-` and `.`
abbrev pub sign_text : Mark → ℕ
sign_text In = 43
sign_text Out = 45
sign_text Open = 46

-- the signs of the values of the point p, in order
abbrev pub signs_text : State → ℕ → List ℕ
signs_text s p = map (λ v. sign_text (mark_at s p v)) (values (counts_of s) p)

-- a label and marks as they are shown: the label, a space, the signs and a line feed
abbrev pub shown_text : List ℕ → List Mark → List ℕ
shown_text label marks = label ++ (codes " " ++ (map sign_text marks ++ codes "\n"))

-- the line of the point p: its label, a space, the signs of its values and a line feed
abbrev pub line_text : State → ℕ → List ℕ
line_text s p = unwrap_or (label_at s.points p) [] ++ (codes " " ++ (signs_text s p ++ codes "\n"))

-- the lines of all points, in order
abbrev pub lines_text : State → List ℕ
lines_text s = flat_map (line_text s) (points (counts_of s))

-- the page of a session
abbrev pub page_text : State → List ℕ
page_text s = cond (is_clashed s) (codes "clash\n") (lines_text s)
