use Rattle.std.proofs.Common.{rules, tests, ◌≡◌, length, not, ap, ◌∙◌}
use Rattle.std.proofs.lemmas.Iterator.{YieldsList-from_slice}
use Rattle.std.proofs.lemmas.Iterator.Search.{position_from_yields_List}
use Rattle.std.specs.List.{position}
use Rattle.std.specs.Option.{unwrap_or}
use Rattle.table_names.proofs.LeastMissing.{first_or_length}
use Rattle.table_names.proofs.marks.first_unmarked.Goals as goal

pub returns : goal.returns
returns c =
    let found : c.position.result ≡ position not c.args.marks.now = position_from_yields_List not _ _ c.position.result c.position.ensures.ran (YieldsList-from_slice _ c.iter.ensures.rest) (λ x b q k. search (rules, tests)) in
    c.unwrap_or.ensures ∙ ap (λ at. unwrap_or at (length c.args.marks.now)) found ∙ first_or_length c.args.marks.now
