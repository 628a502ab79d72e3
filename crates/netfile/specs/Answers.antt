-- What the program's own types say.
use Rattle.std.specs.Prelude.{Ok, Err, Result}
use Rattle.netfile.specs.declared.whole.Whole.{Whole}
use Rattle.netfile.specs.Bytes.{Raw}

-- an answer with its value read by f
abbrev pub map_ok : {A B E : Type 0} → (A → B) → Result A E → Result B E
map_ok f (Ok x) = Ok (f x)
map_ok f (Err e) = Err e

-- what a whole record says
abbrev pub raw_of : Whole → Raw
raw_of w = record { kind = w.kind; body = w.body.now }
