use Rattle.std.proofs.Common.{◌∙◌, ap}
use Rattle.serde_json.specs.Data.{array}
use Rattle.serde_json.specs.View.{view, items_view}
use Rattle.serde_json.proofs.Views.{view-Array}
use Rattle.metadata_writer.specs.Commit.{and_item}
use Rattle.metadata_writer.proofs.Items.{one_item_more}
use Rattle.metadata_writer.proofs.edits.array_and.Goals as goal

pub returns : goal.returns
returns c =
    view-Array c.push.new.self ∙ ap (λ vs. array (items_view vs)) c.in_ok-push.ensures.items ∙ ap array (one_item_more _ c.args.value) ∙ ap (λ is. array (and_item (view c.args.value) is)) c.in_ok-items.ensures
