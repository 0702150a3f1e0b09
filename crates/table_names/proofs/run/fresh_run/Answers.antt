use Rattle.std.proofs.Common.{◌++◌, ap, ◌∙◌, arith}
use Rattle.table_names.proofs.RunNames.{fresh_by}
use Rattle.table_names.proofs.run.fresh_run.Goals as goal

pub returns-clause-run : goal.returns-clause-run
returns-clause-run g c = λ files told.
    fresh_by c.args.table.now c.as_str.result.now c.as_str-2.result.now files c.in_ok-runs.runs.items c.in_ok-others.others.items c.as_slice-2.result.now c.in_ok-least_missing.field-0
    (c.as_str.ensures.value ∙ c.in_ok-data.ensures)
    (c.as_str-2.ensures.value ∙ c.in_ok-metadata.ensures)
    (c.in_ok-runs.ensures.runs files told)
    (c.in_ok-others.ensures.runs files (c.in_ok-runs.ensures.files ∙ told))
    (c.as_slice-2.ensures.value ∙ c.in_ok-extend_from_slice.ensures.items ∙ ap (λ others. c.in_ok-runs.runs.items ++ others) c.as_slice.ensures.value)
    (omega arith)
    c.in_ok-least_missing.ensures
