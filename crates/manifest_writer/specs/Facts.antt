-- How the statistics of an entry are written (Iceberg specification, "Manifests", `value_counts` to `upper_bounds`, and
-- Appendix A, "Avro"): each is an array of records with a key and a value, since Avro's maps have texts as keys.
use Rattle.std.specs.Prelude.{ℕ, ℤ, List, [], ◌∷◌, Option, Some, None, option_map, codes}
use Rattle.std.specs.List.{AllByRecursion, flat_map}
use Rattle.plain_types.specs.Steps.{by_option}
use Rattle.row_values.specs.declared.value.Value.{Value}
use Rattle.kind_values.specs.declared.stats.ColumnStats.{ColumnStats}
use Rattle.kind_values.specs.Bounds.{bytes_of}
use Rattle.avro_binary.specs.declared.datum.Datum.{Datum}
use Rattle.avro_binary.specs.declared.datum.Datum.TheVariants as datum
use Rattle.avro_binary.specs.declared.schema.Field.{Field}
use Rattle.avro_binary.specs.declared.schema.Schema.{Schema}
use Rattle.avro_binary.specs.declared.schema.Schema.TheVariants as schema
use Rattle.avro_binary.specs.declared.schema.Logical.TheVariants.{Plain}
use Rattle.avro_binary.specs.Spelling.{IsSignedOf}
use Rattle.manifest_writer.specs.declared.fact.Fact.{Fact}
use Rattle.manifest_writer.specs.declared.fact.Fact.TheVariants as fact
use Rattle.row_writer.specs.Field.{field, optional_type, map_type, record_type}
use Rattle.manifest_writer.specs.Value.{count_number}
use Rattle.row_writer.specs.KindDatum.{optional}
use Rattle.manifest_files.specs.FieldIds as id_of

-- ---- types

abbrev pub pairs_type : List ℕ → ℤ → ℤ → Schema → Schema
pairs_type name key value type = map_type (record_type name (field key (codes "key") (schema.Int Plain) ∷ field value (codes "value") type ∷ []))

abbrev pub fact_field : Fact → Field
fact_field fact.Values = field id_of.value_counts (codes "value_counts") (optional_type (pairs_type (codes "k119_v120") id_of.value_counts_key id_of.value_counts_value (schema.Long Plain)))
fact_field fact.Nulls = field id_of.null_value_counts (codes "null_value_counts") (optional_type (pairs_type (codes "k121_v122") id_of.null_value_counts_key id_of.null_value_counts_value (schema.Long Plain)))
fact_field fact.Lower = field id_of.lower_bounds (codes "lower_bounds") (optional_type (pairs_type (codes "k126_v127") id_of.lower_bounds_key id_of.lower_bounds_value (schema.Bytes Plain)))
fact_field fact.Upper = field id_of.upper_bounds (codes "upper_bounds") (optional_type (pairs_type (codes "k129_v130") id_of.upper_bounds_key id_of.upper_bounds_value (schema.Bytes Plain)))

-- ---- values

abbrev pub count_datum : Option ℕ → Option Datum
count_datum count = option_map (λ n. datum.Long (count_number n)) count

abbrev pub bound_datum : Option Value → Option Datum
bound_datum bound = option_map (λ v. datum.Bytes (bytes_of v)) bound

abbrev pub fact_datum : Fact → ColumnStats → Option Datum
fact_datum fact.Values facts = count_datum facts.values
fact_datum fact.Nulls facts = count_datum facts.nulls
fact_datum fact.Lower facts = bound_datum facts.lower
fact_datum fact.Upper facts = bound_datum facts.upper

abbrev pub pair : ℤ → Datum → Datum
pair id d = datum.Record (datum.Int id ∷ d ∷ [])

abbrev pub pair_of : Fact → ColumnStats → List Datum
pair_of f facts = by_option (fact_datum f facts) (λ d. pair facts.id d ∷ []) []

-- a pair for each column of which the fact is known
abbrev pub pairs_of : Fact → List ColumnStats → List Datum
pairs_of f stats = flat_map (pair_of f) stats

abbrev pub map_value : List Datum → Datum
map_value [] = optional None
map_value (p ∷ ps) = optional (Some (datum.Array (p ∷ ps)))

-- null where it is known of no column
abbrev pub fact_value : Fact → List ColumnStats → Datum
fact_value f stats = map_value (pairs_of f stats)

-- the ids have the range of their type
abbrev pub HasIds : List ColumnStats → Type 0
HasIds stats = AllByRecursion (λ facts. IsSignedOf 31 facts.id) stats
