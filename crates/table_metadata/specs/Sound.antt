-- What holds of all metadata that is read (Iceberg specification, "Table Metadata Fields", "Schemas and Data Types" and
-- "Snapshots"): ids name what is there, and numbers have the ranges of their types.
use Rattle.std.specs.Prelude.{◌≡◌, List, Some, IsSome}
use Rattle.std.specs.List.{AllByRecursion}
use Rattle.row_values.specs.declared.schema.Column.{Column}
use Rattle.row_values.specs.declared.schema.TableSchema.{TableSchema}
use Rattle.row_values.specs.declared.partition.Spec.{Spec}
use Rattle.table_metadata.specs.Metadata.{Parts}
use Rattle.iceberg_schema.specs.SoundSchema.{IsSoundSchema}
use Rattle.iceberg_schema.specs.SoundSpec.{IsSoundSpec}
use Rattle.table_metadata.specs.ById.{schema_with, spec_with}
use Rattle.iceberg_schema.specs.Widths.{IsInt, IsLong}

-- the current schema, of 1 to 256 columns with ids and names of their own, the ids of 32 bits
pub record HasCurrentSchema (p : Parts) (schema : TableSchema) : Type 0 where
  pub stands : schema_with p.current_schema p.schemas ≡ Some schema
  pub sound : IsSoundSchema schema
  pub ids : AllByRecursion (λ column. IsInt column.id) schema.columns

-- a spec over these columns, whose fields have ids of 32 bits
abbrev pub IsReadSpec : List Column → Spec → Type 0
IsReadSpec columns spec = IsSoundSpec columns spec × AllByRecursion (λ field. IsInt field.field) spec.fields

-- the current schema and the default spec are there, and numbers have the ranges of their types
pub record IsSoundMetadata (p : Parts) : Type 0 where
  pub schema : TableSchema
  pub current : HasCurrentSchema p schema
  pub spec : IsSome (spec_with p.default_spec p.specs)
  pub specs : AllByRecursion (IsReadSpec schema.columns) p.specs
  pub sequence : IsLong p.last_sequence
  pub updated : IsLong p.last_updated_ms
  pub schema_id : IsInt p.current_schema
  pub snapshots : AllByRecursion (λ snapshot. IsLong snapshot.id) p.snapshots
