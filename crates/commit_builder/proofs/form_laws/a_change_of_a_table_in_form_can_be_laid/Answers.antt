use Rattle.commit_builder.proofs.Adding.{change_can_be_laid}
use Rattle.commit_builder.proofs.form_laws.a_change_of_a_table_in_form_can_be_laid.Goals as goal

pub returns : goal.returns
returns c = change_can_be_laid
