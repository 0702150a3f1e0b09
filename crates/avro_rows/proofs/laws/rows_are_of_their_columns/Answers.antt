use Rattle.avro_rows.proofs.RowLaws.{rows_of_columns, rows_of_count}
use Rattle.avro_rows.proofs.laws.rows_are_of_their_columns.Goals as goal

pub returns-clause-kinds : goal.returns-clause-kinds
returns-clause-kinds c = rows_of_columns

pub returns-clause-count : goal.returns-clause-count
returns-clause-count c = rows_of_count
