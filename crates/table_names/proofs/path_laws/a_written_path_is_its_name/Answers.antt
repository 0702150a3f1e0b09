use Rattle.table_names.proofs.PathNames.{data_is, metadata_is}
use Rattle.table_names.proofs.path_laws.a_written_path_is_its_name.Goals as goal

pub returns-clause-data : goal.returns-clause-data
returns-clause-data c = λ table location session run n text plain run_fits n_fits. data_is session run n text plain run_fits n_fits table location

pub returns-clause-metadata : goal.returns-clause-metadata
returns-clause-metadata c = λ table location session run n text plain run_fits n_fits. metadata_is session run n text plain run_fits n_fits table location
