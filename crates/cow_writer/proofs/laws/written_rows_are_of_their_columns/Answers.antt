use Rattle.cow_writer.proofs.WrittenRows.{written_are}
use Rattle.cow_writer.proofs.laws.written_rows_are_of_their_columns.Goals as goal

pub returns : goal.returns
returns c = λ columns scanned decisions are made. written_are columns scanned decisions are made
