use Rattle.std.proofs.Common.{◌≡◌, drop}
use Rattle.serde_json.specs.View.{items_view}
use Rattle.avro_binary.specs.SchemaText.{each, symbol}
use Rattle.avro_binary.proofs.Each.{with_front}
use Rattle.avro_binary.proofs.named_types.symbols.Given as goal

abbrev pub invariant-loop-item : goal.invariant-loop-item
invariant-loop-item l = with_front l.found.items (each symbol (items_view (drop l.item-index l.items)) l.names) ≡ each symbol (items_view l.items) l.fn.names
