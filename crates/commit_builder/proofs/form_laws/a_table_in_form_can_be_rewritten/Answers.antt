use Rattle.commit_builder.proofs.Rewriting.{can_be_rewritten}
use Rattle.commit_builder.proofs.form_laws.a_table_in_form_can_be_rewritten.Goals as goal

pub returns : goal.returns
returns c = λ head version files is form. can_be_rewritten head version files is form
