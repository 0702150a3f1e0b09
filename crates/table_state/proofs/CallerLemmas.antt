-- What other crates cite of the proofs here, by topic.

-- What is gathered manifest by manifest is the live set of all entries, and the counts.
pub use Rattle.table_state.proofs.GatheringLaws.{data_joined, deletes_joined}
-- What is counted manifest by manifest parts the live set.
pub use Rattle.table_state.proofs.Parting.{found_head, found_list, head_is_parted}
-- What the files of a table say stands when files are added.
pub use Rattle.table_state.proofs.Standing.{Stands, branch_rows_stand, branch_stands, data_file_stands, live_stands, option_stands, rows_of_branch_stand, stands_then, two_steps, version_stands}
