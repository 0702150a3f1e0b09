-- How a part of a container is read: what it is, or the first fault of the file.
use Rattle.std.specs.Prelude.{ℕ, ◌-◌, List, Result, Ok, Err}
use Rattle.avro_binary.specs.declared.fault.FaultKind as kinds
use Rattle.avro_binary.specs.declared.fault.FaultKind.TheVariants as kind
use Rattle.avro_binary.specs.declared.fault.Spot as spots
use Rattle.avro_binary.specs.declared.fault.Stop as stops
use Rattle.avro_binary.specs.declared.fault.Stop.TheVariants as stop
use Rattle.avro_binary.specs.Answer as parts
use Rattle.avro_container.specs.declared.fault.ContainerFault.{ContainerFault}
use Rattle.avro_container.specs.declared.fault.ContainerFault.TheVariants.{Short, Meta, Count, Memory}

-- A part of the metadata that ends early is short, and any other fault is of the metadata, at its place.
abbrev pub head_kind : kinds.FaultKind → ℕ → ContainerFault
head_kind kind.Short place = Short place
head_kind kind.Long place = Meta place
head_kind kind.Branch place = Meta place
head_kind kind.Text place = Meta place
head_kind kind.Size place = Meta place

abbrev pub head_fault : ℕ → spots.Spot → ContainerFault
head_fault whole s = head_kind s.kind (whole - s.left)

-- why a part of the metadata stopped, as a fault of the file
abbrev pub stopped : ℕ → stops.Stop → ContainerFault
stopped whole stop.Memory = Memory
stopped whole (stop.At s) = head_fault whole s

-- A count, size or data that ends early is short, and any other fault is of the block's count.
abbrev pub block_kind : kinds.FaultKind → ℕ → ℕ → ContainerFault
block_kind kind.Short place block = Short place
block_kind kind.Long place block = Count block
block_kind kind.Branch place block = Count block
block_kind kind.Text place block = Count block
block_kind kind.Size place block = Count block

abbrev pub block_fault : ℕ → ℕ → spots.Spot → ContainerFault
block_fault whole block s = block_kind s.kind (whole - s.left) block

-- why a part of a block stopped, as a fault of the file
abbrev pub block_stopped : ℕ → ℕ → stops.Stop → ContainerFault
block_stopped whole block stop.Memory = Memory
block_stopped whole block (stop.At s) = block_fault whole block s

-- a part, with its fault as one of the file
abbrev pub as_fault : {A : Type 0} → (spots.Spot → ContainerFault) → parts.Part A → Result (A × List ℕ) ContainerFault
as_fault fault (Ok x) = Ok x
as_fault fault (Err s) = Err (fault s)
