use Rattle.std.proofs.Common.{rules}
use Rattle.commit_builder.specs.Commits.{text_in}
use Rattle.commit_builder.proofs.writing.bytes_of.Goals as goal

pub returns-clause-text : goal.returns-clause-text
unfolding text_in
returns-clause-text c = search rules

pub returns-clause-spelled : goal.returns-clause-spelled
unfolding text_in
returns-clause-spelled c = record { entries = search rules; small = search rules }
