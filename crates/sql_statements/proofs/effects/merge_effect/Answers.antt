use Rattle.std.proofs.Common.{◌≡◌, List, ap, ◌∙◌}
use Rattle.row_values.specs.declared.value.Value.{Value}
use Rattle.sql_statements.specs.Clauses.{matches}
use Rattle.sql_statements.proofs.Widths.{wide_sights}
use Rattle.sql_statements.proofs.effects.merge_effect.Goals as goal

pub effect_by-requires-clause-sights : goal.effect_by-requires-clause-sights
effect_by-requires-clause-sights c =
    let on = c.args.merge.now.on in
    let row = c.args.row.now in
    let read : c.in_ok-sights.sights ≡ matches on c.args.source.now.rows row = c.in_ok-sights.ensures ∙ ap (λ (rows : List (List Value)). matches on rows row) c.as_slice.ensures in
    wide_sights on c.args.source.now.rows _ row _ _ c.requires.wide (c.in_ok-padding.ensures.width ∙ c.len-width.ensures) (c.as_slice-3.ensures ∙ read)
