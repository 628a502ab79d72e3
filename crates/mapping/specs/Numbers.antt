-- The numbers and the texts of what can go wrong with a map.
use Rattle.std.specs.Prelude.{ℕ, List}
use Rattle.theory.specs.Names.{refusal_text, memory_text}
use Rattle.netfile.specs.Texts.{fault_text}
use Rattle.network.specs.Refusals.{number_of as refusal_number}
use Rattle.netfile.specs.declared.loading.ReadError.{ReadError}
use Rattle.netfile.specs.declared.loading.ReadError.TheVariants.{Refused as ReadRefused, OutOfMemory as ReadOutOfMemory}
use Rattle.mapping.specs.declared.error.MapError.{MapError}
use Rattle.mapping.specs.declared.error.MapError.TheVariants.{Refused, TooShort, OutOfMemory}

-- the number that is printed: the refusal's, and 99 where there is no memory
abbrev pub number_of : MapError → ℕ
number_of (Refused f) = refusal_number f.refusal
number_of TooShort = 21
number_of OutOfMemory = 99

-- what is written for an error
abbrev pub map_error_text : MapError → List ℕ
map_error_text (Refused f) = fault_text f
map_error_text TooShort = refusal_text 21
map_error_text OutOfMemory = memory_text

-- what an error of reading is here
abbrev pub from_read : ReadError → MapError
from_read (ReadRefused f) = Refused f
from_read ReadOutOfMemory = OutOfMemory

-- the buffer is too short
abbrev pub too_short : MapError
too_short = TooShort

-- there is no memory
abbrev pub out_of_memory : MapError
out_of_memory = OutOfMemory
