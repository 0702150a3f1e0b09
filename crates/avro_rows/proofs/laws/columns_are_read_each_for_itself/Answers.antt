use Rattle.avro_rows.proofs.ColumnLaws.{read_where_each_is, columns_split}
use Rattle.avro_rows.proofs.laws.columns_are_read_each_for_itself.Goals as goal

pub returns-clause-success : goal.returns-clause-success
returns-clause-success c = read_where_each_is

pub returns-clause-values : goal.returns-clause-values
returns-clause-values c = columns_split
