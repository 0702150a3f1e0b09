use Rattle.schedule_runner.proofs.RunLaws.{run_stands}
use Rattle.schedule_runner.proofs.laws.a_run_stands_when_files_are_added.Goals as goal

pub returns : goal.returns
returns c = λ table sources old new statements current last place to steps kept run. run_stands table sources old new statements kept steps current last place to run
