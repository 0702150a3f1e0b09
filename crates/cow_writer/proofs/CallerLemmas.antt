-- What other crates cite of the proofs here, by topic.

-- The new data files hold the rows that were written to them.
pub use Rattle.cow_writer.proofs.CopyLaws.{copies_hold}
-- Rows cut into files row by row are those that the definition cuts, and are all rows in their order.
pub use Rattle.cow_writer.proofs.PieceLaws.{all_rows, flat}
-- The rows that are written are rows of the columns.
pub use Rattle.cow_writer.proofs.WrittenRows.{written_are}
