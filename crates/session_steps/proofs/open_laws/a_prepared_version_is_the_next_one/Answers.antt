use Rattle.session_steps.proofs.OneTable.{base_read}
use Rattle.session_steps.proofs.OneVersion.{base_version, missing, name}
use Rattle.session_steps.proofs.open_laws.a_prepared_version_is_the_next_one.Goals as goal

pub returns-clause-name : goal.returns-clause-name
returns-clause-name c = λ table schema sources s files current pending prepared was is. name table schema sources s files current pending prepared was is

pub returns-clause-missing : goal.returns-clause-missing
returns-clause-missing c = λ table schema sources s files current pending prepared was is. missing table schema sources s files current pending prepared was is

pub returns-clause-planned : goal.returns-clause-planned
returns-clause-planned c = λ table schema sources s files current pending prepared was is. (base_version table schema sources s files current pending prepared was is, base_read table schema sources s files current pending prepared was is)
