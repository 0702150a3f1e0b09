use Rattle.cow_writer.proofs.CopyLaws.{copies_hold}
use Rattle.cow_writer.proofs.laws.a_copy_holds_the_rows_after.Goals as goal

pub returns : goal.returns
returns c = λ state scanned decisions pred names files can are. copies_hold state scanned decisions pred names files can are
