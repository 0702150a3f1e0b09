use Rattle.session_steps.proofs.VerdictsFound.{keeps_found, verdict_found}
use Rattle.session_steps.proofs.machine_laws.a_validation_finds_what_the_machine_says.Goals as goal

pub returns-clause-verdict : goal.returns-clause-verdict
returns-clause-verdict c = λ table schema sources s files current pending head is main pends loaded. verdict_found table schema sources s files current pending is main pends head loaded

pub returns-clause-keeps : goal.returns-clause-keeps
returns-clause-keeps c = λ table schema sources s files current pending is main pends. keeps_found table schema sources s files current pending is main pends
