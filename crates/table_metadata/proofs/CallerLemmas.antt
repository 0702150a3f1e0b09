-- What other crates cite of the proofs here, by topic.

-- What the lists of metadata hold: schemas, specs and snapshots, each as it is read.
pub use Rattle.table_metadata.proofs.Listed.{there}
-- The readings that metadata is made of, each with what it gives.
pub use Rattle.table_metadata.proofs.PartsRead.{parts_read, readings_of, then_ok}
-- Metadata that is read is sound.
pub use Rattle.table_metadata.proofs.Sound.{sound}
