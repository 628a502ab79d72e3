-- Why a file is refused.
use Rattle.std.specs.Prelude.{ℕ}
use Rattle.network.specs.declared.refusal.Refusal.{Refusal}
use Rattle.netfile.specs.declared.fault.Fault.{Fault}
use Rattle.netfile.specs.declared.fault.Layer.{Layer}

-- the fault that a layer finds at a place
abbrev pub fault_in : Layer → ℕ → Refusal → Fault
fault_in layer place x = record { refusal = x; layer = layer; place = place }
