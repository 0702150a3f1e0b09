use Rattle.table_scan.proofs.PartingLaws.{is_parted}
use Rattle.table_scan.proofs.laws.rows_of_a_branch_are_its_files.Goals as goal

pub returns : goal.returns
returns c = λ table parts pred entries files scanned is. is_parted table parts pred files entries scanned is
