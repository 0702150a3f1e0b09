use Rattle.branch_commit.proofs.RowsRead.{rows_are}
use Rattle.branch_commit.proofs.laws.rows_of_data_files_are_of_the_columns.Goals as goal

pub returns : goal.returns
returns c = λ table parts entries files schema rows current found. rows_are table parts files schema current entries rows found
