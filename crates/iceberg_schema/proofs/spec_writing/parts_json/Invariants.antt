use Rattle.std.proofs.Common.{◌≡◌, map, take}
use Rattle.serde_json.specs.View.{view}
use Rattle.iceberg_schema.specs.SpecData.{part_data}
use Rattle.iceberg_schema.proofs.spec_writing.parts_json.Given as goal

abbrev pub invariant-loop-part : goal.invariant-loop-part
invariant-loop-part l = map view l.items.items ≡ map part_data (take l.part-index l.parts)
