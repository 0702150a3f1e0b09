use Rattle.dml_program.proofs.MainRows.{rows_of_main}
use Rattle.dml_program.proofs.laws.printed_rows_are_those_of_main.Goals as goal

pub returns : goal.returns
returns c = λ table files rows e. rows_of_main table files rows e
