-- How the entries of a manifest are written (Iceberg specification, "Manifests" and "Sequence Number Inheritance").
use Rattle.std.specs.Prelude.{ℕ, nat_eq, ℤ, pos, List, [], ◌∷◌, ◌++◌, length, Option, Some, None, map, codes, if◌then◌else◌}
use Rattle.std.specs.List.{AllByRecursion}
use Rattle.std.specs.Str.{IsUtf8}
use Rattle.avro_binary.specs.declared.datum.Datum.{Datum}
use Rattle.avro_binary.specs.declared.datum.Datum.TheVariants as datum
use Rattle.avro_binary.specs.Spelling.{IsSignedOf, spelling}
use Rattle.avro_container.specs.ContainerText.{container_text}
use Rattle.manifest_files.specs.declared.entry.Content.{Content}
use Rattle.manifest_files.specs.declared.entry.Content.TheVariants as content
use Rattle.manifest_files.specs.declared.entry.Entry.{Entry}
use Rattle.row_values.specs.declared.schema.TableSchema.{TableSchema}
use Rattle.row_values.specs.declared.partition.Spec.{Spec}
use Rattle.kind_values.specs.declared.stats.ColumnStats.{ColumnStats}
use Rattle.manifest_writer.specs.declared.fact.Fact.TheVariants as fact
use Rattle.manifest_writer.specs.EntryTypes.{entry_types}
use Rattle.manifest_writer.specs.Facts.{fact_value, HasIds}
use Rattle.manifest_writer.specs.ManifestMeta.{manifest_meta}
use Rattle.manifest_writer.specs.PartDatum.{part_datums}
use Rattle.manifest_writer.specs.Value.{optional_long, optional_text, AreSignedOf, AreUtf8, count_number}
use Rattle.row_writer.specs.KindDatum.{optional}

-- 0 is an existing file, 1 an added one, any other a deleted one
abbrev pub status_number : ℕ → ℤ
status_number status = if nat_eq status 0 then pos 0 else if nat_eq status 1 then pos 1 else pos 2

abbrev pub content_number : Content → ℤ
content_number content.Data = pos 0
content_number content.PositionDeletes = pos 1
content_number content.EqualityDeletes = pos 2

-- An added file takes its sequence numbers from the manifest's row, so its entry leaves them null.
abbrev pub own_number : ℕ → ℤ → Option ℤ
own_number status number = if nat_eq status 1 then None else Some number

abbrev pub id_datum : ℤ → Datum
id_datum id = datum.Int id

abbrev pub ids_value : List ℤ → Datum
ids_value [] = optional None
ids_value (id ∷ ids) = optional (Some (datum.Array (map id_datum (id ∷ ids))))

abbrev pub number_values : Entry → List Datum
number_values entry = datum.Int (status_number entry.status) ∷ optional_long (Some entry.snapshot) ∷ optional_long (own_number entry.status entry.seq) ∷ optional_long (own_number entry.status entry.file_seq) ∷ []

abbrev pub head_values : Spec → TableSchema → Entry → List Datum
head_values spec schema entry = datum.Int (content_number entry.content) ∷ datum.Text entry.path ∷ datum.Text (codes "AVRO") ∷ datum.Record (part_datums schema.columns spec.fields entry.partition) ∷ datum.Long (count_number entry.count) ∷ datum.Long (count_number entry.size) ∷ []

abbrev pub fact_values : List ColumnStats → List Datum
fact_values stats = fact_value fact.Values stats ∷ fact_value fact.Nulls stats ∷ fact_value fact.Lower stats ∷ fact_value fact.Upper stats ∷ []

abbrev pub file_values : Spec → TableSchema → Entry → List Datum
file_values spec schema entry = head_values spec schema entry ++ fact_values entry.stats.columns ++ ids_value entry.equality_ids ∷ optional_text entry.referenced ∷ []

abbrev pub datum_of_entry : Spec → TableSchema → Entry → Datum
datum_of_entry spec schema entry = datum.Record (number_values entry ++ datum.Record (file_values spec schema entry) ∷ [])

-- how many bytes an entry takes
abbrev pub entry_size : Spec → TableSchema → Entry → ℕ
entry_size spec schema entry = length (spelling (datum_of_entry spec schema entry))

-- the bytes of the manifest of these entries
abbrev pub manifest_text : List Entry → Spec → TableSchema → List ℕ
manifest_text entries spec schema = container_text (record { schema = entry_types spec schema; meta = manifest_meta entries spec schema; datums = map (datum_of_entry spec schema) entries })

-- ---- entries that can be written

abbrev pub HasNumbers : Entry → Type 0
HasNumbers entry = IsSignedOf 63 entry.snapshot × AreSignedOf 63 (own_number entry.status entry.seq) × AreSignedOf 63 (own_number entry.status entry.file_seq)

abbrev pub HasFile : Entry → Type 0
HasFile entry = IsUtf8 entry.path × HasIds entry.stats.columns × AllByRecursion (IsSignedOf 31) entry.equality_ids × AreUtf8 entry.referenced

-- the texts and the numbers have the ranges of their types
abbrev pub IsEntry : Entry → Type 0
IsEntry entry = HasNumbers entry × HasFile entry
