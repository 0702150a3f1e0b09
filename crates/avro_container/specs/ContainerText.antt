-- How a container is written (Avro 1.11.1, 'Object Container Files').
use Rattle.std.specs.Prelude.{ℕ, zero, suc, List, [], ◌∷◌, ◌++◌, map, length, take, drop, codes}
use Rattle.std.specs.List.{concat, AllByRecursion}
use Rattle.std.specs.Str.{IsUtf8}
use Rattle.avro_binary.specs.declared.datum.Datum as datums
use Rattle.avro_binary.specs.declared.schema.Schema as schemas
use Rattle.avro_binary.specs.Spelling.{natural, counted, block, spelling}
use Rattle.avro_binary.specs.SchemaData.{schema_text}
use Rattle.avro_container.specs.declared.pairs.MetaPair.{MetaPair}
use Rattle.avro_container.specs.declared.container.Container.{Container}
use Rattle.avro_container.specs.Header.{magic}
use Rattle.avro_container.specs.Grammar.{Lacks, Distinct}

-- the 16 bytes that end the header and each block
abbrev pub sync : List ℕ
sync = codes "iceberg-dml-sync"

-- ---- the header

abbrev pub pair_text : MetaPair → List ℕ
pair_text p = counted p.key ++ counted p.value

abbrev pub schema_pair : schemas.Schema → MetaPair
schema_pair schema = record { key = codes "avro.schema"; value = schema_text schema }

abbrev pub codec_pair : MetaPair
codec_pair = record { key = codes "avro.codec"; value = codes "null" }

-- the magic, the metadata in one block, the container's own pairs first, and the sync bytes
abbrev pub header_text : schemas.Schema → List MetaPair → List ℕ
header_text schema meta = magic ++ block (map pair_text (schema_pair schema ∷ codec_pair ∷ meta)) ++ sync

-- ---- the blocks

-- a block of these datums
abbrev pub block_text : List datums.Datum → List ℕ
block_text ds = natural (length ds) ++ counted (concat (map spelling ds)) ++ sync

-- pieces of `limit` from the front on, of which the last may have fewer; at most `more` of them, which are all where the
-- list has that many
unfoldable pub pieces : {A : Type 0} → ℕ → ℕ → List A → List (List A)
pieces limit zero xs = []
pieces limit (suc more) [] = []
pieces limit (suc more) (x ∷ xs) = take limit (x ∷ xs) ∷ pieces limit more (drop limit (x ∷ xs))

-- blocks of at most `limit` datums
abbrev pub blocks_text : ℕ → List datums.Datum → List ℕ
blocks_text limit ds = concat (map block_text (pieces limit (length ds) ds))

abbrev pub container_text : Container → List ℕ
container_text c = header_text c.schema c.meta ++ blocks_text 1000 c.datums

-- ---- the metadata that a caller may give

-- keys that are UTF-8 and distinct, and neither of the container's own
pub record AreMeta (meta : List MetaPair) : Type 0 where
  pub texts : AllByRecursion (λ p. IsUtf8 p.key) meta
  pub distinct : Distinct meta
  pub no_schema : Lacks (codes "avro.schema") meta
  pub no_codec : Lacks (codes "avro.codec") meta
