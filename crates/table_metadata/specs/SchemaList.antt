-- All schemas and all partition specs of a table (Iceberg specification, "Table Metadata Fields"). Each spec is read over
-- the columns of the current schema.
use Rattle.std.specs.Prelude.{ℤ, codes, List, [], ◌∷◌, ◌++◌, Option, Some, None, Result, Ok, if◌then◌else◌}
use Rattle.std.specs.Ordering.{int_eq}
use Rattle.serde_json.specs.Data.{Data, Items, no_items, item}
use Rattle.row_values.specs.declared.schema.Column.{Column}
use Rattle.row_values.specs.declared.schema.TableSchema.{TableSchema}
use Rattle.row_values.specs.declared.partition.Spec.{Spec}
use Rattle.table_metadata.specs.declared.metadata_fault.MetadataFault.{MetadataFault}
use Rattle.table_metadata.specs.declared.metadata_fault.MetadataFault.TheVariants as fault
use Rattle.iceberg_schema.specs.Keys.{items_at}
use Rattle.iceberg_schema.specs.SchemaJson.{table_schema_of}
use Rattle.iceberg_schema.specs.SpecJson.{spec_of}
use Rattle.table_metadata.specs.TableKeys.{shaped}
use Rattle.plain_types.specs.Steps.{◌>>=◌, fault_as}

-- the schemas of these elements, behind those that are read
unfoldable pub schemas_from : List TableSchema → Items → Result (List TableSchema) MetadataFault
schemas_from earlier no_items = Ok earlier
schemas_from earlier (item d ds) = fault_as fault.Schema (table_schema_of d) >>= λ schema. schemas_from (earlier ++ schema ∷ []) ds

unfoldable pub schemas_of : Data → Result (List TableSchema) MetadataFault
schemas_of d = shaped (codes "schemas") (items_at (codes "schemas") d) >>= λ items. schemas_from [] items

-- the columns of the schema with the id
unfoldable pub columns_with : ℤ → List TableSchema → Option (List Column)
columns_with id [] = None
columns_with id (schema ∷ schemas) = if int_eq schema.id id then Some schema.columns else columns_with id schemas

-- the specs of these elements, behind those that are read
unfoldable pub specs_from : List Column → List Spec → Items → Result (List Spec) MetadataFault
specs_from columns earlier no_items = Ok earlier
specs_from columns earlier (item d ds) = fault_as fault.Spec (spec_of columns d) >>= λ spec. specs_from columns (earlier ++ spec ∷ []) ds

-- The current schema is among them, since its id was found before.
unfoldable pub specs_of : ℤ → List TableSchema → Data → Result (List Spec) MetadataFault
specs_of current schemas d = do
  columns ← shaped (codes "current-schema-id") (columns_with current schemas)
  items ← shaped (codes "partition-specs") (items_at (codes "partition-specs") d)
  specs_from columns [] items
