-- What other crates cite of the proofs here, by topic.

-- The ids of a sound schema fit each other.
pub use Rattle.metadata_writer.proofs.NewFits.{sound_schema-fits}
-- What is read of the first version of a table.
pub use Rattle.metadata_writer.proofs.NewRead.{found, text-first_version}
-- The first version of a table can be written.
pub use Rattle.metadata_writer.proofs.NewWithin.{writable-first_version}
-- What is written reads back, and what was read can be written.
pub use Rattle.metadata_writer.proofs.Texts.{writable-read}
-- Edits of a value that has no float and nests no deeper than a bound keep it so.
pub use Rattle.metadata_writer.proofs.Within.{FoundWithin, Within, array-within, empty-within, get-within, no_items-within}
