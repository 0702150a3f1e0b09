use Rattle.std.proofs.Common.{refl}
use Rattle.schedule_runner.proofs.RunningLaws.{begins, finishes}
use Rattle.schedule_runner.proofs.laws.a_session_runs_from_its_begin_to_its_end.Goals as goal

pub returns-clause-begins : goal.returns-clause-begins
returns-clause-begins c = λ table schema sources statements start first begun session held. begins table schema sources statements start first session.place begun session refl held

pub returns-clause-finishes : goal.returns-clause-finishes
returns-clause-finishes c = λ table schema sources statements start files first place begun session steps running through. finishes table schema sources statements start first place begun files session steps running through
