use Rattle.metadata_writer.proofs.NewFits.{sound_schema-fits}
use Rattle.metadata_writer.proofs.NewRead.{first_version-read, spec_of_fields, text-first_version}
use Rattle.metadata_writer.proofs.laws.a_first_version_is_read.Goals as goal

pub returns-clause-data : goal.returns-clause-data
returns-clause-data c = first_version-read

pub returns-clause-text : goal.returns-clause-text
returns-clause-text c = text-first_version

pub returns-clause-ids : goal.returns-clause-ids
returns-clause-ids c = sound_schema-fits

pub returns-clause-spec : goal.returns-clause-spec
returns-clause-spec c = spec_of_fields
