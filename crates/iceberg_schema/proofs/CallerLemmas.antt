-- What other crates cite of the proofs here, by topic.

-- A schema that is read is sound, and so is a spec.
pub use Rattle.iceberg_schema.proofs.SchemaSoundness.{sound_schema, untested}
pub use Rattle.iceberg_schema.proofs.SpecSoundness.{sound_spec}
-- A schema that is read is read again of the JSON that is written of it.
pub use Rattle.iceberg_schema.proofs.WrittenSchemas.{a_written_schema_is_read}
-- A spec that is read is read again of its id and the JSON that is written of its fields.
pub use Rattle.iceberg_schema.proofs.WrittenSpecs.{a_written_spec_is_read}
-- Numbers of 32 and of 64 bits.
pub use Rattle.iceberg_schema.proofs.WidthLaws.{between, long_below, long_fits, long_least, long_of_int}
