use Rattle.schedule_runner.proofs.RunningLaws.{ends}
use Rattle.schedule_runner.proofs.laws.a_step_that_fails_ends_a_run.Goals as goal

pub returns : goal.returns
returns c = λ table schema sources statements start old new first place begun session steps s before now fault changes main kept running at_hand either.
    ends table schema sources statements changes main start first place begun old new kept session steps running s at_hand before now fault either
