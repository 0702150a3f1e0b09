use Rattle.std.proofs.Common.{◌≡◌, map, take}
use Rattle.serde_json.specs.View.{view}
use Rattle.avro_binary.specs.SchemaData.{name_data}
use Rattle.avro_binary.proofs.schema_data.symbols.Given as goal

abbrev pub invariant-loop-name : goal.invariant-loop-name
invariant-loop-name l = map view l.items.items ≡ map name_data (take l.name-index l.names)
