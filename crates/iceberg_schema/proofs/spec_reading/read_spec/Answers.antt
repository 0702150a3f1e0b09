use Rattle.std.proofs.Common.{rules}
use Rattle.serde_json.specs.View.{view}
use Rattle.iceberg_schema.specs.SpecJson.{spec_of}
use Rattle.iceberg_schema.proofs.SpecSoundness.{sound_spec}
use Rattle.iceberg_schema.proofs.spec_reading.read_spec.Goals as goal

pub returns-clause-sound : goal.returns-clause-sound
unfolding spec_of
returns-clause-sound c = sound_spec c.args.schema.now.columns (view c.args.json.now) _ (search rules)
