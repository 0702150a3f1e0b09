use Rattle.std.proofs.Common.{rules}
use Rattle.serde_json.specs.View.{view}
use Rattle.iceberg_schema.specs.SchemaJson.{table_schema_of}
use Rattle.iceberg_schema.proofs.SchemaSoundness.{sound_schema}
use Rattle.iceberg_schema.proofs.schema_reading.read_table_schema.Goals as goal

pub returns-clause-sound : goal.returns-clause-sound
unfolding table_schema_of
returns-clause-sound c = sound_schema (view c.args.json.now) _ (search rules)
