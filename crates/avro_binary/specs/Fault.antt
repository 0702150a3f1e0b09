-- Faults by the place where they begin, in a text of a known length.
use Rattle.std.specs.Prelude.{◌≡◌, ◌⊎◌, ℕ, ◌-◌, ◌≤◌, List, length, drop, Result, Ok, Err}
use Rattle.avro_binary.specs.declared.fault.FaultKind as kinds
use Rattle.avro_binary.specs.declared.fault.FaultKind.TheVariants as kind
use Rattle.avro_binary.specs.declared.fault.Spot.{Spot}
use Rattle.avro_binary.specs.declared.fault.Stop.{Stop}
use Rattle.avro_binary.specs.declared.fault.Stop.TheVariants as stop
use Rattle.avro_binary.specs.declared.fault.DatumFault.{DatumFault}
use Rattle.avro_binary.specs.declared.fault.DatumFault.TheVariants.{Short, Long, Branch, Text, Size, Memory}
use Rattle.avro_binary.specs.declared.datum.Datum.{Datum}
use Rattle.avro_binary.specs.Answer.{Part}
use Rattle.avro_binary.specs.Shape.{Shape}
use Rattle.avro_binary.specs.Grammar.{Fails}

-- a fault of this kind, by its place
abbrev pub fault_at : kinds.FaultKind → ℕ → DatumFault
fault_at kind.Short place = Short place
fault_at kind.Long place = Long place
fault_at kind.Branch place = Branch place
fault_at kind.Text place = Text place
fault_at kind.Size place = Size place

-- a fault in a text of this length
abbrev pub fault_of : ℕ → Spot → DatumFault
fault_of whole s = fault_at s.kind (whole - s.left)

abbrev pub fault_from : ℕ → Stop → DatumFault
fault_from whole stop.Memory = Memory
fault_from whole (stop.At s) = fault_of whole s

-- what was answered at these bytes is what the reading gives, unless memory ran out
abbrev pub AnswersDatum : Result (Datum × ℕ) DatumFault → List ℕ → Part Datum → Type 0
AnswersDatum (Ok x) bytes read = (x.1 ≤ length bytes) × (read ≡ Ok (x.0, drop x.1 bytes))
AnswersDatum (Err f) bytes read = (f ≡ Memory) ⊎ ((s : Spot) × (f ≡ fault_of (length bytes) s) × (read ≡ Err s))

-- the first fault of the bytes, unless memory ran out
abbrev pub MayFail : Shape → List ℕ → DatumFault → Type 0
MayFail shape bytes f = (f ≡ Memory) ⊎ ((s : Spot) × (f ≡ fault_of (length bytes) s) × Fails shape bytes s)
