-- What other crates cite of the proofs here, by topic.

-- Copy-on-write by the decisions of a statement leaves the rows that the statement leaves.
pub use Rattle.table_scan.proofs.CopyLaws.{IsRead, leaves, scan_is_read}
-- The decisions of a statement, file by file: each file takes those of its own rows that are hit.
pub use Rattle.table_scan.proofs.FileDecisions.{KeepsMissed, changes, changes_file, copied_is, left_in, removed_is, unchanged}
-- The rows that are hit are those of the branch of which the filter is True. They alone decide what a statement inserts and
-- whether it is refused.
pub use Rattle.table_scan.proofs.HitLaws.{hits_decide, hits_insert, hits_refuse}
-- The rows that are hit are rows of the columns.
pub use Rattle.table_scan.proofs.HitRows.{hits_are_rows}
-- The rows that a statement makes are among those that it leaves.
pub use Rattle.table_scan.proofs.MadeLaws.{made_are_rows}
-- The rows of data files part into those of the files that are scanned and those of the others.
pub use Rattle.table_scan.proofs.PartingLaws.{is_parted}
-- The rows of a data file by their positions.
pub use Rattle.table_scan.proofs.RowLaws.{rows_stay}
-- Entries of one file: each entry is of its own file, and two of one file have one path.
pub use Rattle.table_scan.proofs.SameFiles.{itself, same_path}
-- What is scanned stands when files are added.
pub use Rattle.table_scan.proofs.Standing.{scan_stands}
-- Rows as wide as the table: those of each part, and what the statement does with those that its filter leaves out.
pub use Rattle.table_scan.proofs.WidthLaws.{kept_by_filter, wide_parts}
