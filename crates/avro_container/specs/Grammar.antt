-- The grammar of an object container file (Avro 1.11.1, 'Object Container Files'): which bytes are a file of which
-- schema, metadata and datums. It is stated on the bytes as a whole, with no place that moves and no bound on the blocks.
use Rattle.std.specs.Prelude.{◌≡◌, ◌≢◌, ◌⊎◌, ◌≤◌, ℕ, pos, List, [], ◌∷◌, ◌++◌, length, Ok, codes}
use Rattle.avro_binary.specs.declared.datum.Datum as datums
use Rattle.avro_binary.specs.declared.schema.Schema as schemas
use Rattle.avro_binary.specs.Shape as shapes
use Rattle.avro_binary.specs.Grammar.{Then, As, ReadsLong, ReadsLength, ReadsBytes, ReadsText, ReadsEach, ReadsAll, Reads, joined}
use Rattle.avro_binary.specs.SchemaText.{schema_from}
use Rattle.avro_container.specs.declared.pairs.MetaPair.{MetaPair}
use Rattle.avro_container.specs.Header.{magic}

-- ---- the metadata

-- a key, which is a string, and its value, which is bytes
abbrev pub ReadsMetaPair : List ℕ → MetaPair → List ℕ → Type 0
ReadsMetaPair bytes = Then (ReadsText bytes) (λ key after. As (λ value. record { key = key; value = value }) (ReadsBytes after))

-- no pair has this key
abbrev pub Lacks : List ℕ → List MetaPair → Type 0
Lacks key [] = Unit {0}
Lacks key (p ∷ ps) = (p.key ≢ key) × Lacks key ps

-- a pair has this key and this value
abbrev pub Has : List ℕ → List ℕ → List MetaPair → Type 0
Has key value [] = ⊥
Has key value (p ∷ ps) = ((p.key ≡ key) × (p.value ≡ value)) ⊎ Has key value ps

-- no key stands twice
abbrev pub Distinct : List MetaPair → Type 0
Distinct [] = Unit {0}
Distinct (p ∷ ps) = Lacks p.key ps × Distinct ps

-- no codec, or the codec `null`
abbrev pub IsUncompressed : List MetaPair → Type 0
IsUncompressed pairs = Lacks (codes "avro.codec") pairs ⊎ Has (codes "avro.codec") (codes "null") pairs

-- a schema, in JSON
abbrev pub HasWrittenSchema : List MetaPair → schemas.Schema → Type 0
HasWrittenSchema pairs schema = (text : List ℕ) × Has (codes "avro.schema") text pairs × (schema_from text ≡ Ok schema)

-- a pair that the container itself has
abbrev pub IsOwn : MetaPair → Type 0
IsOwn p = (p.key ≡ codes "avro.schema") ⊎ (p.key ≡ codes "avro.codec")

-- the pairs but for those, in order
abbrev pub AreOthers : List MetaPair → List MetaPair → Type 0
AreOthers [] meta = meta ≡ []
AreOthers (p ∷ ps) meta = (IsOwn p × AreOthers ps meta) ⊎ ((IsOwn p → ⊥) × ((more : List MetaPair) × (meta ≡ p ∷ more) × AreOthers ps more))

-- ---- the blocks

-- How many datums, how many bytes, that many bytes, which are so many datums one after another, and the sync bytes.
-- No more datums than bytes, though Avro allows it where they take none, as those of the schema `null`.
pub record ReadsBlock (shape : shapes.Shape) (sync bytes : List ℕ) (ds : List datums.Datum) (rest : List ℕ) : Type 0 where
  pub sized : List ℕ
  pub stored : List ℕ
  pub count : ReadsLong bytes (pos (length ds)) sized
  pub size : ReadsLength sized (length stored) (stored ++ (sync ++ rest))
  pub few : length ds ≤ length stored
  pub all : ReadsEach (Reads shape) ds stored []

-- blocks to the end of the file, and the datums of all of them
abbrev pub AreBlocks : shapes.Shape → List ℕ → List ℕ → List datums.Datum → Type 0
AreBlocks shape sync bytes ds = (blocks : List (List datums.Datum)) × ReadsEach (λ from block rest. ReadsBlock shape sync from block rest) blocks bytes [] × (ds ≡ joined blocks)

-- ---- the file

-- the magic, the metadata, 16 sync bytes, and the blocks
pub record ContainerOf (bytes : List ℕ) (schema : schemas.Schema) (meta : List MetaPair) (ds : List datums.Datum) : Type 0 where
  pub header : List ℕ
  pub pairs : List MetaPair
  pub sync : List ℕ
  pub blocks : List ℕ
  pub starts : bytes ≡ magic ++ header
  pub metadata : ReadsAll ReadsMetaPair header pairs (sync ++ blocks)
  pub keys : Distinct pairs
  pub plain : IsUncompressed pairs
  pub schema_text : HasWrittenSchema pairs schema
  pub others : AreOthers pairs meta
  pub sixteen : length sync ≡ 16
  pub all : AreBlocks (shapes.shape schema) sync blocks ds
