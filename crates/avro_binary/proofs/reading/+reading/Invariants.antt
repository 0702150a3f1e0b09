use Rattle.std.proofs.Common.{◌≡◌, length, map, drop, ◌-◌}
use Rattle.avro_binary.specs.Shape.{shape, shapes, field_shape}
use Rattle.avro_binary.specs.Reading.{datum_at, fields_at, items_at, blocks_at, pair_at}
use Rattle.avro_binary.proofs.Loops.{with_front}
use Rattle.avro_binary.proofs.reading.+reading.Given as goal

abbrev pub invariant-array_blocks-loop : goal.invariant-array_blocks-loop
invariant-array_blocks-loop l = with_front l.all.items (blocks_at (datum_at (shape l.items)) (length l.bytes - l.counter) l.rest) ≡ blocks_at (datum_at (shape l.items)) (length l.bytes) l.bytes

abbrev pub invariant-datums_at-loop : goal.invariant-datums_at-loop
invariant-datums_at-loop l = with_front l.values.items (items_at (datum_at (shape l.items)) (l.count - l.counter) l.rest) ≡ items_at (datum_at (shape l.items)) l.count l.bytes

abbrev pub invariant-fields_at-loop-field : goal.invariant-fields_at-loop-field
invariant-fields_at-loop-field l = with_front l.values.items (fields_at (shapes (map field_shape (drop l.field-index l.fields))) l.rest) ≡ fields_at (shapes (map field_shape l.fields)) l.bytes

abbrev pub invariant-map_blocks-loop : goal.invariant-map_blocks-loop
invariant-map_blocks-loop l = with_front l.all.items (blocks_at (pair_at (datum_at (shape l.values))) (length l.bytes - l.counter) l.rest) ≡ blocks_at (pair_at (datum_at (shape l.values))) (length l.bytes) l.bytes

abbrev pub invariant-map_items-loop : goal.invariant-map_items-loop
invariant-map_items-loop l = with_front l.pairs.items (items_at (pair_at (datum_at (shape l.values))) (l.count - l.counter) l.rest) ≡ items_at (pair_at (datum_at (shape l.values))) l.count l.bytes
