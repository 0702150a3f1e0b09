use Rattle.commit_builder.proofs.Adding.{can_be_added}
use Rattle.commit_builder.proofs.form_laws.a_written_file_can_be_added.Goals as goal

pub returns : goal.returns
returns c = λ base scanned decisions pred names version files is form short. can_be_added base version files is form scanned decisions names short
