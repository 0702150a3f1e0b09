-- An object container file (Avro 1.11.1, 'Object Container Files'): its header, and then block by block.
use Rattle.std.specs.Prelude.{ℕ, zero, suc, ◌+◌, List, [], ◌∷◌, ◌++◌, length, Result, Ok, Err}
use Rattle.plain_types.specs.Steps.{◌>>=◌}
use Rattle.avro_binary.specs.declared.datum.Datum as datums
use Rattle.avro_binary.specs.Shape as shapes
use Rattle.avro_container.specs.declared.fault.ContainerFault.{ContainerFault}
use Rattle.avro_container.specs.declared.fault.ContainerFault.TheVariants.{Count}
use Rattle.avro_container.specs.declared.container.Container.{Container}
use Rattle.avro_container.specs.Header.{header_of}
use Rattle.avro_container.specs.Block.{block_at}

-- the datums of the blocks from this one on, after those before it; at most `more` blocks, which are all where that
-- many bytes are left
unfoldable pub blocks_at : shapes.Shape → List ℕ → ℕ → ℕ → ℕ → List datums.Datum → List ℕ → Result (List datums.Datum) ContainerFault
blocks_at shape sync whole more block before [] = Ok before
blocks_at shape sync whole zero block before (b ∷ bytes) = Err (Count block)
blocks_at shape sync whole (suc more) block before (b ∷ bytes) = block_at shape sync whole block (b ∷ bytes) >>= λ x. blocks_at shape sync whole more (block + 1) (before ++ x.0) x.1

unfoldable pub container_of : List ℕ → Result Container ContainerFault
container_of bytes = do
  header ← header_of bytes
  datums ← blocks_at (shapes.shape header.0.schema) header.0.sync (length bytes) (length header.1) 0 [] header.1
  Ok (record { schema = header.0.schema; meta = header.0.meta; datums = datums })
