use Rattle.commit_builder.proofs.Adding.{can_be_read}
use Rattle.commit_builder.proofs.form_laws.written_files_can_be_read.Goals as goal

pub returns : goal.returns
returns c = λ base scanned decisions names version files is form are room short. can_be_read base version files is form scanned decisions names are room short
