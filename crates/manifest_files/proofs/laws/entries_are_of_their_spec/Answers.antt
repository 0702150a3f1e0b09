use Rattle.manifest_files.proofs.EntryLaws.{entries_are}
use Rattle.manifest_files.proofs.laws.entries_are_of_their_spec.Goals as goal

pub returns : goal.returns
returns c = entries_are
