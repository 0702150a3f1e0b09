-- What holds of all metadata that is read, whatever its bytes.
use Rattle.std.specs.Prelude.{◌≡◌, IsSome}
use Rattle.std.specs.Result.{IsOk}
use Rattle.table_metadata.specs.FieldIds.{field_ids_fit}
use Rattle.table_metadata.specs.Metadata.{Parts}
use Rattle.table_metadata.specs.References.{all_hold}
use Rattle.table_metadata.specs.SchemaList.{columns_with}

-- The version is 2, the current schema is there, the field ids fit, and each ref names a snapshot, `main` the current one.
pub record IsCoherent (p : Parts) : Type 0 where
  pub version : p.format_version ≡ 2
  pub schema : IsSome (columns_with p.current_schema p.schemas)
  pub ids : IsOk (field_ids_fit p.last_column p.last_partition p.schemas p.specs)
  pub refs : IsOk (all_hold p.current_snapshot p.snapshots p.refs)
