use Rattle.std.proofs.Common.{◌≡◌, ◌++◌, take}
use Rattle.run_report.specs.Report.{lines_of_steps}
use Rattle.run_report.proofs.steps.put_steps.Given as goal

abbrev pub invariant-loop-step : goal.invariant-loop-step
invariant-loop-step l = l.out.items ≡ l.initial.out.items ++ lines_of_steps l.names (take l.step-index l.steps)
