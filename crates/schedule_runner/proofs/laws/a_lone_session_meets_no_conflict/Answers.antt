use Rattle.schedule_runner.proofs.AloneLaws.{answers_its_own, meets_no_conflict}
use Rattle.schedule_runner.proofs.laws.a_lone_session_meets_no_conflict.Goals as goal

pub returns-clause-none : goal.returns-clause-none
returns-clause-none c = λ table sources files statements current place steps last to at_plan changes run. meets_no_conflict table sources files statements changes current place steps last to at_plan run

pub returns-clause-own : goal.returns-clause-own
returns-clause-own c = λ table sources files statements current place steps last to at_plan changes run. answers_its_own table sources files statements changes current place steps last to at_plan run
