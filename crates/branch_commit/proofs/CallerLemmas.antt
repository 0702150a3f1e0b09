-- What other crates cite of the proofs here, by topic.

-- A statement that is committed leaves its rows.
pub use Rattle.branch_commit.proofs.Committed.{committed}
-- Where the filter is FALSE no file is scanned.
pub use Rattle.branch_commit.proofs.FalseFilter.{nothing_scanned}
-- Loads of one branch: what was loaded stands when files are added, so two loads of one version agree.
pub use Rattle.branch_commit.proofs.Loads.{loaded_rows, states_stand}
-- Rows that are read of data files are rows of the columns of the current schema.
pub use Rattle.branch_commit.proofs.RowsRead.{rows_are}
