-- What a schema file asks for: a JSON object with the schema of a table, and perhaps the fields of its partition spec and
-- its properties, each in the form that a table's metadata has it (Iceberg specification, Appendix C, "Schemas", "Partition
-- Specs" and "Table Metadata and Snapshots").
use Rattle.std.specs.Prelude.{ℕ, not, nat_eq, nat_le, ◌||◌, codes, List, Bool, true, false, Result, Ok, Err, if◌then◌else◌}
use Rattle.std.specs.Str.{is_utf8}
use Rattle.std.specs.Cmp.Lexicographic.{pointwise}
use Rattle.serde_json.specs.Data.{Data, Members, no_members, member, no_items, array, depth}
use Rattle.serde_json.specs.Find.{get, as_object}
use Rattle.serde_json.specs.View.{view}
use Rattle.row_values.specs.declared.schema.TableSchema.{TableSchema}
use Rattle.row_values.specs.declared.partition.Spec.{Spec}
use Rattle.plain_types.specs.Steps.{◌>>=◌, or_fault, fault_if, fault_as, by_option}
use Rattle.table_metadata.specs.declared.properties.Properties.{Properties}
use Rattle.table_metadata.specs.Metadata.{json_of}
use Rattle.iceberg_schema.specs.Keys.{text_at}
use Rattle.iceberg_schema.specs.SchemaJson.{table_schema_of}
use Rattle.iceberg_schema.specs.SpecJson.{spec_of}
use Rattle.table_metadata.specs.TableProperties.{table_properties_of}
use Rattle.metadata_writer.specs.NewTable.{spec_data}
use Rattle.table_definition.specs.declared.definition.Definition.{Definition}
use Rattle.table_definition.specs.declared.definition.DefinitionFault.{DefinitionFault}
use Rattle.table_definition.specs.declared.definition.DefinitionFault.TheVariants as fault

-- what is asked for, and the JSON that says it
pub record Asked : Type 0 where
  pub schema : TableSchema
  pub spec : Spec
  pub properties : Properties
  pub json : Data

abbrev pub asked : Definition → Asked
asked d = record { schema = d.schema; spec = d.spec; properties = d.properties; json = view d.json }

abbrev pub is_key : List ℕ → Bool
is_key name = pointwise nat_eq name (codes "schema") || (pointwise nat_eq name (codes "partition-spec") || pointwise nat_eq name (codes "properties"))

unfoldable pub has_only_keys : Members → Bool
has_only_keys no_members = true
has_only_keys (member name d members) = if is_key name then has_only_keys members else false

-- the fields of the partition spec: none, where nothing is said
abbrev pub fields_in : Data → Data
fields_in d = by_option (get (codes "partition-spec") d) (λ fields. fields) (array no_items)

-- It nests less deep than metadata may, in which it stands two levels further down.
abbrev pub nests : Data → Bool
nests d = nat_le (depth d) 125

abbrev pub no_schema : {E : Type 0} → E → DefinitionFault
no_schema e = fault.Schema

unfoldable pub form_of : Data → Result Members DefinitionFault
form_of d = do
  members ← or_fault fault.Schema (as_object d)
  _ ← fault_if fault.Schema (not (has_only_keys members))
  _ ← fault_if fault.Schema (not (nests d))
  Ok members

-- a schema is of the type `struct` ("Schemas")
abbrev pub is_struct : Data → Bool
is_struct schema = by_option (text_at (codes "type") schema) (λ name. pointwise nat_eq name (codes "struct")) false

abbrev pub schema_in : Data → Result TableSchema DefinitionFault
schema_in d = do
  schema ← or_fault fault.Schema (get (codes "schema") d)
  _ ← fault_if fault.Schema (not (is_struct schema))
  fault_as no_schema (table_schema_of schema)

-- the partition spec, which is on columns of the schema
abbrev pub spec_in : TableSchema → Data → Result Spec DefinitionFault
spec_in schema d = fault_as no_schema (spec_of schema.columns (spec_data (fields_in d)))

abbrev pub properties_in : Data → Result Properties DefinitionFault
properties_in d = fault_as no_schema (table_properties_of d)

unfoldable pub asked_in : Data → Result Asked DefinitionFault
asked_in d = do
  _ ← form_of d
  schema ← schema_in d
  spec ← spec_in schema d
  properties ← properties_in d
  Ok (record { schema = schema; spec = spec; properties = properties; json = d })

abbrev pub object_of : List ℕ → Result Data DefinitionFault
object_of bytes = fault_as no_schema (json_of bytes)

-- what the bytes of a schema file ask for
unfoldable pub definition_of : List ℕ → Result Asked DefinitionFault
definition_of bytes = if is_utf8 bytes then (object_of bytes >>= asked_in) else Err fault.Text
