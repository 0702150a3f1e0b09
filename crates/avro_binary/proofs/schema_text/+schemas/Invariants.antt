use Rattle.std.proofs.Common.{◌≡◌, ◌+◌, ◌*◌, drop}
use Rattle.serde_json.specs.View.{items_view}
use Rattle.avro_binary.specs.SchemaText.{each, field, schema_at}
use Rattle.avro_binary.proofs.Each.{with_front}
use Rattle.avro_binary.proofs.schema_text.+schemas.Given as goal

abbrev pub decreases-schema_at : goal.decreases-schema_at
decreases-schema_at l = l.depth * 8

abbrev pub decreases-field : goal.decreases-field
decreases-field l = l.inner * 8 + 1

abbrev pub decreases-fields : goal.decreases-fields
decreases-fields l = l.inner * 8 + 2

abbrev pub decreases-branches : goal.decreases-branches
decreases-branches l = l.inner * 8 + 2

abbrev pub decreases-record_node : goal.decreases-record_node
decreases-record_node l = l.inner * 8 + 3

abbrev pub decreases-array_node : goal.decreases-array_node
decreases-array_node l = l.inner * 8 + 3

abbrev pub decreases-map_node : goal.decreases-map_node
decreases-map_node l = l.inner * 8 + 3

abbrev pub decreases-union_node : goal.decreases-union_node
decreases-union_node l = l.inner * 8 + 3

abbrev pub decreases-typed : goal.decreases-typed
decreases-typed l = l.inner * 8 + 4

abbrev pub decreases-single : goal.decreases-single
decreases-single l = l.inner * 8 + 5

abbrev pub invariant-branches-loop-item : goal.invariant-branches-loop-item
invariant-branches-loop-item l = with_front l.found.items (each (schema_at l.inner l.space) (items_view (drop l.item-index l.items)) l.names) ≡ each (schema_at l.inner l.space) (items_view l.items) l.fn.names

abbrev pub invariant-fields-loop-item : goal.invariant-fields-loop-item
invariant-fields-loop-item l = with_front l.found.items (each (field (schema_at l.inner) l.space) (items_view (drop l.item-index l.items)) l.names) ≡ each (field (schema_at l.inner) l.space) (items_view l.items) l.fn.names
