use Rattle.schedule_runner.proofs.RunLaws.{goes_on}
use Rattle.schedule_runner.proofs.laws.a_run_goes_on_by_a_step.Goals as goal

pub returns : goal.returns
returns c = λ table sources files statements current last place to steps turned run is. goes_on table sources files statements steps current last place to turned run is
