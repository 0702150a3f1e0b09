-- The header of a container (Avro 1.11.1, 'Object Container Files').
use Rattle.std.specs.Prelude.{ℕ, List, [], ◌∷◌, length, take, drop, Option, Some, None, Result, Ok, Err, codes, if◌then◌else◌}
use Rattle.std.specs.Str.{bytes_eq}
use Rattle.plain_types.specs.Steps.{◌>>=◌}
use Rattle.avro_binary.specs.declared.schema.Schema as schemas
use Rattle.avro_binary.specs.declared.schema_fault.SchemaFault as schema_faults
use Rattle.avro_binary.specs.Number.{front_at}
use Rattle.avro_binary.specs.SchemaText.{schema_from}
use Rattle.avro_container.specs.declared.fault.ContainerFault.{ContainerFault}
use Rattle.avro_container.specs.declared.fault.ContainerFault.TheVariants.{Magic, NoSchema, Codec, Schema}
use Rattle.avro_container.specs.declared.pairs.MetaPair.{MetaPair}
use Rattle.avro_container.specs.declared.header.Header.{Header}
use Rattle.avro_container.specs.Answer.{as_fault, head_fault}
use Rattle.avro_container.specs.Pairs.{value_of, map_at, others}

-- the first four bytes of a container
abbrev pub magic : List ℕ
magic = 79 ∷ 98 ∷ 106 ∷ 1 ∷ []

abbrev pub schema_text : Option (List ℕ) → Result (List ℕ) ContainerFault
schema_text None = Err NoSchema
schema_text (Some text) = Ok text

-- the data is as it stands where no codec is named, or `null`
abbrev pub plain_data : {A : Type 0} → Option (List ℕ) → Result A ContainerFault → Result A ContainerFault
plain_data None wanted = wanted
plain_data (Some name) wanted = if bytes_eq name (codes "null") then wanted else Err (Codec name)

abbrev pub schema_in : Result schemas.Schema schema_faults.SchemaFault → Result schemas.Schema ContainerFault
schema_in (Ok s) = Ok s
schema_in (Err f) = Err (Schema f)

-- the schema by the pairs
unfoldable pub schema_by : List MetaPair → Result schemas.Schema ContainerFault
schema_by pairs = schema_text (value_of (codes "avro.schema") pairs) >>= λ text. plain_data (value_of (codes "avro.codec") pairs) (schema_in (schema_from text))

-- the header, and the blocks after it
unfoldable pub header_from : ℕ → List ℕ → Result (Header × List ℕ) ContainerFault
header_from whole bytes = do
  pairs ← map_at whole (length bytes) [] bytes
  sync ← as_fault (head_fault whole) (front_at 16 pairs.1)
  schema ← schema_by pairs.0
  Ok (record { schema = schema; meta = others pairs.0; sync = sync.0 }, sync.1)

unfoldable pub header_of : List ℕ → Result (Header × List ℕ) ContainerFault
header_of bytes = if bytes_eq (take 4 bytes) magic then header_from (length bytes) (drop 4 bytes) else Err Magic
