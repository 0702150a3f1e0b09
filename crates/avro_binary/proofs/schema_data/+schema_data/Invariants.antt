use Rattle.std.proofs.Common.{◌≡◌, map, drop}
use Rattle.serde_json.specs.View.{view}
use Rattle.avro_binary.specs.SchemaData.{write_each, written, written_field}
use Rattle.avro_binary.proofs.SchemaLoops.{with_front}
use Rattle.avro_binary.proofs.schema_data.+schema_data.Given as goal

abbrev pub invariant-fields_json-loop-field : goal.invariant-fields_json-loop-field
invariant-fields_json-loop-field l = with_front (map view l.items.items) (write_each (map written_field (drop l.field-index l.fields)) l.names.items) ≡ write_each (map written_field l.fields) l.fn.begun.items

abbrev pub invariant-branches_json-loop-branch : goal.invariant-branches_json-loop-branch
invariant-branches_json-loop-branch l = with_front (map view l.items.items) (write_each (map written (drop l.branch-index l.branches)) l.names.items) ≡ write_each (map written l.branches) l.fn.begun.items
