use Rattle.std.proofs.Common.{◌≡◌, [], length}
use Rattle.serde_json.specs.View.{items_view}
use Rattle.iceberg_schema.specs.SpecJson.{fields_of}
use Rattle.iceberg_schema.proofs.spec_reading.read_fields.Given as goal

-- the elements that are left give the same fields, behind those that are read
abbrev pub invariant-loop-rest : goal.invariant-loop-rest
invariant-loop-rest l = fields_of l.columns l.fields.items (items_view l.rest) ≡ fields_of l.columns [] (items_view l.items)

abbrev pub decreases-loop-rest : goal.decreases-loop-rest
decreases-loop-rest l = length l.rest
