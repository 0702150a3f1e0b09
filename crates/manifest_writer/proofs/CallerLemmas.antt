-- What other crates cite of the proofs here, by topic.

-- The entries that are read of a manifest can be written again.
pub use Rattle.manifest_writer.proofs.EntriesAgain.{entries_are_written}
-- The entries of a manifest that is written are read again.
pub use Rattle.manifest_writer.proofs.EntryLaws.{manifest_again}
-- The rows of a list that is written are read again.
pub use Rattle.manifest_writer.proofs.ListLaws.{list_again}
-- The rows that are read of a manifest list can be listed again.
pub use Rattle.manifest_writer.proofs.RowsAgain.{rows_are_listed}
