-- What other crates cite of the proofs here, by topic.

-- One step of a reading after another, where the whole has an answer.
pub use Rattle.avro_container.proofs.Binds.{bind_ok, same_ok}
-- Blocks are read by their grammar.
pub use Rattle.avro_container.proofs.BlockLaws.{all_found}
-- A file is read by its grammar.
pub use Rattle.avro_container.proofs.FileLaws.{container_found, file}
-- Longs are datums of the schema `long`.
pub use Rattle.avro_container.proofs.LongLaws.{one_more_long}
-- Reading pairs and blocks one after the other, as loops do.
pub use Rattle.avro_container.proofs.Loops.{is_none, is_some}
-- A container that is written is read again.
pub use Rattle.avro_container.proofs.TextLaws.{text_read_again}
