-- What a table's metadata names by id (Iceberg specification, "Table Metadata Fields").
use Rattle.std.specs.Prelude.{ℤ, List, [], ◌∷◌, Option, Some, None, if◌then◌else◌}
use Rattle.std.specs.Ordering.{int_eq}
use Rattle.row_values.specs.declared.schema.TableSchema.{TableSchema}
use Rattle.row_values.specs.declared.partition.Spec.{Spec}
use Rattle.table_metadata.specs.declared.snapshots.Snapshot.{Snapshot}

unfoldable pub spec_with : ℤ → List Spec → Option Spec
spec_with id [] = None
spec_with id (spec ∷ specs) = if int_eq spec.id id then Some spec else spec_with id specs

unfoldable pub schema_with : ℤ → List TableSchema → Option TableSchema
schema_with id [] = None
schema_with id (schema ∷ schemas) = if int_eq schema.id id then Some schema else schema_with id schemas

unfoldable pub snapshot_with : ℤ → List Snapshot → Option Snapshot
snapshot_with id [] = None
snapshot_with id (snapshot ∷ snapshots) = if int_eq snapshot.id id then Some snapshot else snapshot_with id snapshots
