use Rattle.table_names.proofs.VersionChanges.{next_version}
use Rattle.table_names.proofs.version_laws.the_next_version_is_current_once_it_is_there.Goals as goal

pub returns : goal.returns
returns c = λ table old new current bytes is small there same. next_version table old new current bytes is small there same
