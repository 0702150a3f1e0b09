use Rattle.std.proofs.Common.{rules, filter, ap, ◌∙◌}
use Rattle.std.proofs.lemmas.List.Elements.{filter_from_retain}
use Rattle.table_state.specs.Live.{is_live}
use Rattle.dml_program.proofs.open.live_entries.Goals as goal

pub returns : goal.returns
returns c = filter_from_retain _ is_live (λ p x b q h. search rules) _ _ _ c.retain.ensures.filtered ∙ ap (filter is_live) c.into_vec-live.ensures
