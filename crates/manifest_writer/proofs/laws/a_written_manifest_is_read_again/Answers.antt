use Rattle.manifest_writer.proofs.EntryLaws.{manifest_again}
use Rattle.manifest_writer.proofs.laws.a_written_manifest_is_read_again.Goals as goal

pub returns : goal.returns
returns c = manifest_again
