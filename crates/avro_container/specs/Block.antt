-- A block of a container (Avro 1.11.1, 'Object Container Files'): a count, a size, that many bytes of datums, and the
-- header's sync bytes.
use Rattle.std.specs.Prelude.{ℕ, ℤ, pos, negsuc, List, length, take, drop, Option, Some, None, Result, Ok, Err, nat_le, ◌==◌, if◌then◌else◌}
use Rattle.std.specs.Str.{bytes_eq}
use Rattle.plain_types.specs.Steps.{◌>>=◌}
use Rattle.avro_binary.specs.declared.datum.Datum as datums
use Rattle.avro_binary.specs.declared.fault.Spot as spots
use Rattle.avro_binary.specs.Number.{long_at, length_at, front_at}
use Rattle.avro_binary.specs.Shape as shapes
use Rattle.avro_binary.specs.Reading.{datum_at, items_at}
use Rattle.avro_binary.specs.Fault.{fault_of}
use Rattle.avro_container.specs.declared.fault.ContainerFault.{ContainerFault}
use Rattle.avro_container.specs.declared.fault.ContainerFault.TheVariants.{Count, Datum, Sync}
use Rattle.avro_container.specs.Answer.{as_fault, block_fault}

-- how many datums a block has: a count that is neither negative nor above the size
abbrev pub counted : ℤ → ℕ → Option ℕ
counted (pos n) size = if nat_le n size then Some n else None
counted (negsuc n) size = None

-- a block's count and data
pub record Stored : Type 0 where
  pub count : ℤ
  pub bytes : List ℕ

-- a count, a size and the data, which end early before anything else is wrong with them
unfoldable pub data_at : ℕ → ℕ → List ℕ → Result (Stored × List ℕ) ContainerFault
data_at whole block bytes = do
  count ← as_fault (block_fault whole block) (long_at bytes)
  size ← as_fault (block_fault whole block) (length_at count.1)
  text ← as_fault (block_fault whole block) (front_at size.0 size.1)
  Ok (record { count = count.0; bytes = text.0 }, text.1)

abbrev pub datum_fault : ℕ → ℕ → spots.Spot → ContainerFault
datum_fault whole block s = Datum block (fault_of whole s)

-- the datums of a block's data, all of it
abbrev pub datums_of : shapes.Shape → ℕ → Option ℕ → List ℕ → Result (List datums.Datum) ContainerFault
datums_of shape block None bytes = Err (Count block)
datums_of shape block (Some count) bytes = as_fault (datum_fault (length bytes) block) (items_at (datum_at shape) count bytes) >>= λ x. if length x.1 == 0 then Ok x.0 else Err (Count block)

-- a block, in a file of length `whole` whose sync bytes are these, and the blocks after it
unfoldable pub block_at : shapes.Shape → List ℕ → ℕ → ℕ → List ℕ → Result (List datums.Datum × List ℕ) ContainerFault
block_at shape sync whole block bytes = do
  stored ← data_at whole block bytes
  datums ← datums_of shape block (counted stored.0.count (length stored.0.bytes)) stored.0.bytes
  if bytes_eq (take 16 stored.1) sync then Ok (datums, drop 16 stored.1) else Err (Sync block)
