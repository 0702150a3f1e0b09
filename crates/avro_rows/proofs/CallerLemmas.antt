-- What other crates cite of the proofs here, by topic.

-- A row that is read is a row of the columns.
pub use Rattle.avro_rows.proofs.RowLaws.{rows_of_columns, rows_of_count}
