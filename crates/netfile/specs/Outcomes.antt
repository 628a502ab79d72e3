-- What a call that reads a file answers, by what the file says.
use Rattle.std.specs.Prelude.{◌≡◌, Ok, Err, Result}
use Rattle.network.specs.declared.network.Network.{Network}
use Rattle.network.specs.Contents.{Contents, contents_of}
use Rattle.netfile.specs.declared.draft.Draft.{Draft}
use Rattle.netfile.specs.declared.fault.Fault.{Fault}
use Rattle.netfile.specs.declared.loading.ReadError.{ReadError}
use Rattle.netfile.specs.declared.loading.ReadError.TheVariants.{Refused, OutOfMemory}
use Rattle.netfile.specs.Drafts.{state_of}
use Rattle.netfile.specs.Reading.{contents}

-- the error that carries a fault
abbrev pub refused_by : Fault → ReadError
refused_by f = Refused f

-- the error that says that there was no memory
abbrev pub out_of_memory : ReadError
out_of_memory = OutOfMemory

-- the answer is a draft of what the file lists, or the file's fault, or that there was no memory
abbrev pub Drafts : Result Contents Fault → Result Draft ReadError → Type 0
Drafts file (Ok d) = file ≡ Ok (contents (state_of d))
Drafts file (Err (Refused f)) = file ≡ Err f
Drafts file (Err OutOfMemory) = Unit {0}

-- the answer is the network that the file lists, or the file's fault, or that there was no memory
abbrev pub Reads : Result Contents Fault → Result Network ReadError → Type 0
Reads file (Ok n) = file ≡ Ok (contents_of n)
Reads file (Err (Refused f)) = file ≡ Err f
Reads file (Err OutOfMemory) = Unit {0}

-- the same where the network takes the place of another, which stays unless the file is accepted
abbrev pub Loads : Result Contents Fault → Network → Network → Result (Unit {0}) ReadError → Type 0
Loads file old new (Ok _) = file ≡ Ok (contents_of new)
Loads file old new (Err (Refused f)) = (file ≡ Err f) × (new ≡ old)
Loads file old new (Err OutOfMemory) = new ≡ old
