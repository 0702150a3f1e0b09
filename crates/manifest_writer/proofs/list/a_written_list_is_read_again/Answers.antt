use Rattle.manifest_writer.proofs.ListLaws.{list_again}
use Rattle.manifest_writer.proofs.list.a_written_list_is_read_again.Goals as goal

pub returns : goal.returns
returns c = list_again
