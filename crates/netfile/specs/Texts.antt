-- What is written of a fault, and of a file that was not read.
use Rattle.std.specs.Prelude.{ℕ, List, ◌++◌, codes, decimal}
use Rattle.theory.specs.Names.{refusal_text, memory_text}
use Rattle.network.specs.Refusals.{number_of}
use Rattle.netfile.specs.declared.fault.Fault.{Fault}
use Rattle.netfile.specs.declared.loading.ReadError.{ReadError}
use Rattle.netfile.specs.declared.loading.ReadError.TheVariants.{Refused, OutOfMemory}

-- the refusal by its number, and the place
abbrev pub fault_text : Fault → List ℕ
fault_text f = refusal_text (number_of f.refusal) ++ (codes " at " ++ decimal f.place)

-- the text of the fault, or that there was no memory
abbrev pub read_error_text : ReadError → List ℕ
read_error_text (Refused f) = fault_text f
read_error_text OutOfMemory = memory_text
