use Rattle.std.proofs.Common.{◌∙◌}
use Rattle.dml_program.specs.ScriptRuns.{names_in}
use Rattle.dml_program.proofs.ScriptReports.{partly, wholly}
use Rattle.dml_program.proofs.script_run.whole_report.Goals as goal

pub returns-in-Ok-clause-report : goal.returns-in-Ok-clause-report
returns-in-Ok-clause-report g c =
    wholly (λ report. report.status) (λ report. report.lines.items) c.args.table.now c.as_slice-names.result.now (names_in c.args.script.now)
    (c.as_slice-names.ensures.value ∙ c.in_ok-names.ensures) c.args.steps.now
    (g.S.Store.files c.args.store.now) c.in-Ok.rows c.whole.result c.whole.ensures.status c.whole.ensures.lines c.in-Ok.ensures.counted

pub returns-clause-report : goal.returns-clause-report
returns-clause-report g c =
    partly (λ report. report.status) (λ report. report.lines.items) c.args.table.now c.as_slice-names.result.now (names_in c.args.script.now) (c.as_slice-names.ensures.value ∙ c.in_ok-names.ensures) c.args.steps.now (g.S.Store.files c.args.store.now)
    c.args.table.now c.in-Err.fault c.broken.result c.in_ok-status-in-Err.status c.in_ok-status-in-Err.ensures.status c.broken.ensures.status c.broken.ensures.lines c.in_ok-status-in-Err.ensures.some c.in-Err.ensures.refused
