use Rattle.std.proofs.Common.{◌≡◌, map, take}
use Rattle.serde_json.specs.View.{view}
use Rattle.iceberg_schema.specs.SchemaData.{column_data}
use Rattle.iceberg_schema.proofs.schema_writing.columns_json.Given as goal

abbrev pub invariant-loop-column : goal.invariant-loop-column
invariant-loop-column l = map view l.items.items ≡ map column_data (take l.column-index l.columns)
