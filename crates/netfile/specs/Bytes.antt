-- The byte layer: a record is one byte of kind and a body whose length the kind fixes.
use Rattle.std.specs.Prelude.{ℕ, ◌+◌, cond, List, [], ◌∷◌, length, take, Some, None, Ok, Err, Option, Result, ◌==◌, nat_lt}
use Rattle.network.specs.declared.refusal.Refusal.{Refusal}
use Rattle.network.specs.declared.refusal.Refusal.TheVariants.{Truncated, UnknownKind}
use Rattle.netfile.specs.declared.fault.Fault.{Fault}
use Rattle.netfile.specs.declared.fault.Layer.TheVariants.{Byte}
use Rattle.netfile.specs.declared.record.Kind.{Kind}
use Rattle.netfile.specs.declared.record.Kind.TheVariants.{Head, Point, Table, Pair, End}
use Rattle.netfile.specs.Faults.{fault_in}

-- the byte that stands for a kind
abbrev pub code_of : Kind → ℕ
code_of Head = 1
code_of Point = 2
code_of Table = 3
code_of Pair = 4
code_of End = 5

-- how many bytes follow the byte of kind
abbrev pub body_length : Kind → ℕ
body_length Head = 3
body_length Point = 9
body_length Table = 2
body_length Pair = 2
body_length End = 2

-- the kind that a byte stands for, if any
abbrev pub kind_of : ℕ → Option Kind
kind_of b =
    cond (b == 1) (Some Head)
    (cond (b == 2) (Some Point)
    (cond (b == 3) (Some Table)
    (cond (b == 4) (Some Pair)
    (cond (b == 5) (Some End) None))))

-- a kind that is known, or the refusal of one that is not
abbrev pub known_kind : Option Kind → Result Kind Refusal
known_kind (Some k) = Ok k
known_kind None = Err UnknownKind

-- a whole record: its kind and its body
pub record Raw : Type 0 where
  pub kind : Kind
  pub body : List ℕ

-- the body after a byte of kind at the place: refused where the kind is unknown, or where the file stops short
abbrev pub body_of : ℕ → Option Kind → List ℕ → Result Raw Fault
body_of place None bs = Err (fault_in Byte place UnknownKind)
body_of place (Some k) bs =
    cond (nat_lt (length bs) (body_length k))
    (Err (fault_in Byte (place + 1 + length bs) Truncated))
    (Ok (record { kind = k; body = take (body_length k) bs }))

-- the record at the front of the bytes, which begin at the place
abbrev pub raw_at : ℕ → List ℕ → Result Raw Fault
raw_at place [] = Err (fault_in Byte place Truncated)
raw_at place (b ∷ bs) = body_of place (kind_of b) bs
