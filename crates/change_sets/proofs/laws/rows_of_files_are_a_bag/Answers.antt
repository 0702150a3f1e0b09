use Rattle.change_sets.proofs.Rows.{same_rows}
use Rattle.change_sets.proofs.laws.rows_of_files_are_a_bag.Goals as goal

pub returns : goal.returns
returns c = λ table parts files others entries rows same read. same_rows table parts files others entries rows same read
