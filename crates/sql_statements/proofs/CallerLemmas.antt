-- What other crates cite of the proofs here, by topic.

-- A row for which the filter of a statement is not True is kept.
pub use Rattle.sql_statements.proofs.FilterLaws.{kept_outside}
-- A statement that fits the columns leaves rows of the columns.
pub use Rattle.sql_statements.proofs.KindLaws.{rows_stay}
-- What a statement inserts and why it is refused depend on the rows where its filter is True alone.
pub use Rattle.sql_statements.proofs.LocalLaws.{local_insertions, local_refusal}
-- Laws of serial runs.
pub use Rattle.sql_statements.proofs.RunLaws.{run_is, same_serial, serial-append}
-- The steps of loops.
pub use Rattle.sql_statements.proofs.Steps.{flat_map_step}
-- The widths of rows in sight.
pub use Rattle.sql_statements.proofs.Widths.{rows_are_wide}
