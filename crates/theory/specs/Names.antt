-- The names of encodings, sides, marks and refusals, as programs read and write them.
use Rattle.std.specs.Prelude.{ℕ, cond, List, ◌++◌, Some, None, codes, decimal, Option}
use Rattle.std.specs.Str.{bytes_eq}
use Rattle.theory.specs.declared.Encoding.{Encoding}
use Rattle.theory.specs.declared.Encoding.TheVariants.{Direct, Support, MinimalSupport}
use Rattle.theory.specs.declared.Side.{Side}
use Rattle.theory.specs.declared.Side.TheVariants.{Lower, Higher}
use Rattle.theory.specs.declared.Mark.{Mark}
use Rattle.theory.specs.declared.Mark.TheVariants.{In, Out, Open}

-- the encoding of a name, if it is the name of one
abbrev pub encoding_named : List ℕ → Option Encoding
encoding_named name =
    cond (bytes_eq name (codes "direct")) (Some Direct)
    (cond (bytes_eq name (codes "support")) (Some Support)
    (cond (bytes_eq name (codes "minimal")) (Some MinimalSupport) None))

-- the name of a side
abbrev pub side_name : Side → List ℕ
side_name Lower = codes "lower"
side_name Higher = codes "higher"

-- the name of a mark
abbrev pub mark_name : Mark → List ℕ
mark_name In = codes "in"
mark_name Out = codes "out"
mark_name Open = codes "open"

-- a refusal, by its number
abbrev pub refusal_text : ℕ → List ℕ
refusal_text n = codes "refused " ++ decimal n

-- that there was no memory
abbrev pub memory_text : List ℕ
memory_text = codes "out of memory"
