use Rattle.std.proofs.Common.{take}
use Rattle.std.proofs.lemmas.Result.{err_from_is_err_and}
use Rattle.plain_types.proofs.CallerLemmas.{front_of_more}
use Rattle.run_report.specs.Report.{lines_of_steps}
use Rattle.run_report.proofs.steps.put_steps.Goals as goal

pub returns-in_err-put_step : goal.returns-in_err-put_step
returns-in_err-put_step c =
    let p = err_from_is_err_and c.from_residual.result c.from_residual.ensures.1 in
    rw p.1 (front_of_more c.args.out.now.items (lines_of_steps c.args.names.now (take c.loop-step.step-index c.args.steps.now)) c.loop-step.out.items c.put_step.new.out.items c.loop-step.invariant c.in_err-put_step.ensures)
