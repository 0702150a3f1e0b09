use Rattle.table_names.proofs.VersionNames.{above_is_missing, all_are_missing}
use Rattle.table_names.proofs.version_laws.a_version_is_not_above_the_current_one.Goals as goal

pub returns-clause-greatest : goal.returns-clause-greatest
returns-clause-greatest c = λ table files current n is above small. above_is_missing table files current n is above small

pub returns-clause-none : goal.returns-clause-none
returns-clause-none c = λ table files n is above small. all_are_missing table files n is above small
