-- What other crates cite of the proofs here, by topic.

-- The rows of data files, weighed file by file.
pub use Rattle.change_sets.proofs.Rows.{same_rows}
