-- What other crates cite of the proofs here, by topic.

-- Names that differ in their number, their session or their folder are different, so a file under one leaves the others free.
pub use Rattle.table_names.proofs.Apart.{after_metadata, data_names_apart, stands, stays}
-- Names that are drawn: none, one after another, and of fewer.
pub use Rattle.table_names.proofs.DrawingLemmas.{draws_more, draws_none, draws_then, draws_then-folder, same_names}
-- A path below a table's location, of a folder and a name in it.
pub use Rattle.table_names.proofs.PathNames.{metadata_is}
-- The current version is the same where the names of versions are, and it is the next one once that is there.
pub use Rattle.table_names.proofs.VersionChanges.{next_version, same_version}
-- The name of a version is read as its number, so no version that is there is above the current one.
pub use Rattle.table_names.proofs.VersionNames.{above_is_missing, all_are_missing, is_of}
