use Rattle.schedule_runner.proofs.SerialLaws.{carries_on}
use Rattle.schedule_runner.proofs.laws.a_step_carries_a_serial_run_on.Goals as goal

pub returns : goal.returns
returns c = λ columns sources s said begun before after told dml main serial leaves. carries_on columns sources s dml main begun told said before after serial leaves
