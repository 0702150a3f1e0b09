use Rattle.table_names.proofs.VersionChanges.{same_version}
use Rattle.table_names.proofs.version_laws.the_names_of_versions_say_which_is_current.Goals as goal

pub returns : goal.returns
returns c = λ table old new same. same_version table old new same
