-- What other crates cite of the proofs here, by topic.

-- Entries that are read are of their spec.
pub use Rattle.manifest_files.proofs.EntryLaws.{entries_are}
-- Statistics stand in strictly rising order of ids, and each tells something.
pub use Rattle.manifest_files.proofs.StatisticsLaws.{known_rising, placed, rising, with_is_placed}
