use Rattle.table_names.proofs.Apart.{beside_data, beside_metadata}
use Rattle.table_names.proofs.name_laws.another_session_leaves_the_names_free.Goals as goal

pub returns-clause-data : goal.returns-clause-data
returns-clause-data c = λ table session other bytes run from n files f s differ none. beside_data table session other bytes run from n files f s differ none

pub returns-clause-metadata : goal.returns-clause-metadata
returns-clause-metadata c = λ table session other bytes run from n files f s differ none. beside_metadata table session other bytes run from n files f s differ none
