-- Lists of JSON values as their data.
use Rattle.std.proofs.Common.{◌≡◌, suc, List, [], ◌∷◌, length, refl, ap}
use Rattle.serde_json.specs.declared.value.Value.{Value}
use Rattle.serde_json.specs.View.{items_view}
use Rattle.iceberg_schema.specs.Keys.{item_count}

pub counts_items : (vs : List Value) → item_count (items_view vs) ≡ length vs
counts_items [] = refl
counts_items (v ∷ vs) = ap suc (counts_items vs)
