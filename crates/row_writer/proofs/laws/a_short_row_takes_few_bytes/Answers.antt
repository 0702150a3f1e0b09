use Rattle.row_writer.proofs.Sizes.{row_small}
use Rattle.row_writer.proofs.laws.a_short_row_takes_few_bytes.Goals as goal

pub returns : goal.returns
returns c = row_small
