use Rattle.std.proofs.Common.{◌≡◌, [], length}
use Rattle.serde_json.specs.View.{items_view}
use Rattle.iceberg_schema.specs.SchemaJson.{columns_of}
use Rattle.iceberg_schema.proofs.schema_reading.read_columns.Given as goal

-- the elements that are left give the same columns, behind those that are read
abbrev pub invariant-loop-rest : goal.invariant-loop-rest
invariant-loop-rest l = columns_of l.columns.items (items_view l.rest) ≡ columns_of [] (items_view l.fields)

abbrev pub decreases-loop-rest : goal.decreases-loop-rest
decreases-loop-rest l = length l.rest
