-- Lists of JSON values as their data.
use Rattle.std.proofs.Common.{◌≡◌, List, [], ◌∷◌, ◌++◌, refl, ap}
use Rattle.serde_json.specs.Data.{item}
use Rattle.serde_json.specs.declared.value.Value.{Value}
use Rattle.serde_json.specs.View.{view, items_view}
use Rattle.metadata_writer.specs.Commit.{and_item}

pub one_item_more : (vs : List Value) (v : Value) → items_view (vs ++ v ∷ []) ≡ and_item (view v) (items_view vs)
one_item_more [] v = refl
one_item_more (w ∷ vs) v = ap (item (view w)) (one_item_more vs v)
