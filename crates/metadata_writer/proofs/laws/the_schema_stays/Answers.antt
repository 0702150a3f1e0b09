use Rattle.metadata_writer.proofs.ReadAfter.{ids-after_snapshot, properties-after_snapshot, schemas-after_snapshot, specs-after_snapshot}
use Rattle.metadata_writer.proofs.laws.the_schema_stays.Goals as goal

pub returns-clause-schemas : goal.returns-clause-schemas
returns-clause-schemas c = schemas-after_snapshot

pub returns-clause-specs : goal.returns-clause-specs
returns-clause-specs c = specs-after_snapshot

pub returns-clause-properties : goal.returns-clause-properties
returns-clause-properties c = properties-after_snapshot

pub returns-clause-ids : goal.returns-clause-ids
returns-clause-ids c = ids-after_snapshot
