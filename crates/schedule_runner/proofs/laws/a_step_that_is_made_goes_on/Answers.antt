use Rattle.schedule_runner.proofs.RunningLaws.{goes}
use Rattle.schedule_runner.proofs.laws.a_step_that_is_made_goes_on.Goals as goal

pub returns : goal.returns
returns c = λ table schema sources statements start old new first place begun session after steps s stepped changes main kept running at_hand step.
    goes table schema sources statements changes main start first place begun old new kept session steps running s at_hand after stepped step
