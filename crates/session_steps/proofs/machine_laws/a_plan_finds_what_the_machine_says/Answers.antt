use Rattle.session_steps.proofs.PlansFound.{is_absent_at, is_found, version_same}
use Rattle.session_steps.proofs.machine_laws.a_plan_finds_what_the_machine_says.Goals as goal

pub returns-clause-version : goal.returns-clause-version
returns-clause-version c = λ table schema s files current base is loaded. version_same table schema s files current base is loaded

pub returns-clause-absent : goal.returns-clause-absent
returns-clause-absent c = λ table schema sources s files current base is loaded absent. is_absent_at table schema s files current base is loaded sources absent

pub returns-clause-found : goal.returns-clause-found
returns-clause-found c = λ table schema sources s files current base scanned is main loaded present scan. is_found table schema s files current base is loaded sources main scanned present scan
