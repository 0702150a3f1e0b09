use Rattle.session_steps.proofs.NoVersions.{of_data, of_metadata}
use Rattle.session_steps.proofs.work_laws.names_of_files_are_no_versions.Goals as goal

pub returns-clause-of_data : goal.returns-clause-of_data
returns-clause-of_data c = λ table session run n. of_data table session run n

pub returns-clause-of_metadata : goal.returns-clause-of_metadata
returns-clause-of_metadata c = λ table session run n. of_metadata table session run n
