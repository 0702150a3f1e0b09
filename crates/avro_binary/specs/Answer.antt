-- How a part of a datum is read: a value and the bytes after it, or the first fault.
use Rattle.std.specs.Prelude.{◌≡◌, ℕ, List, length, Result, Ok, Err}
use Rattle.avro_binary.specs.declared.fault.FaultKind.{FaultKind}
use Rattle.avro_binary.specs.declared.fault.FaultKind.TheVariants.{Short}
use Rattle.avro_binary.specs.declared.fault.Spot.{Spot}
use Rattle.avro_binary.specs.declared.fault.Stop.{Stop}
use Rattle.avro_binary.specs.declared.fault.Stop.TheVariants.{Memory, At}

-- a value and the bytes after it, or a fault and how many bytes are left where it begins
abbrev pub Part : Type 0 → Type 0
Part A = Result (A × List ℕ) Spot

-- the bytes end
abbrev pub ended : Spot
ended = record { kind = Short; left = 0 }

-- a fault that begins where these bytes do
abbrev pub spot : FaultKind → List ℕ → Spot
spot kind bytes = record { kind = kind; left = length bytes }

-- Why a function stopped is the fault of the reading, unless memory ran out.
abbrev pub Stops : {Y : Type 0} → Stop → Result Y Spot → Type 0
Stops Memory read = Unit {0}
Stops (At s) read = read ≡ Err s

-- What a function returned, seen by view, is what reading gives, unless memory ran out.
abbrev pub Gives : {X Y : Type 0} → (X → Y) → Result X Stop → Result Y Spot → Type 0
Gives view (Ok x) read = read ≡ Ok (view x)
Gives view (Err stop) read = Stops stop read
