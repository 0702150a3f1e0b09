use Rattle.table_names.proofs.Apart.{after_data, after_metadata}
use Rattle.table_names.proofs.name_laws.a_file_leaves_the_later_names_free.Goals as goal

pub returns-clause-data : goal.returns-clause-data
returns-clause-data c = λ table session bytes run n files none. after_data table session bytes run n files none

pub returns-clause-metadata : goal.returns-clause-metadata
returns-clause-metadata c = λ table session bytes run n files none. after_metadata table session bytes run n files none
