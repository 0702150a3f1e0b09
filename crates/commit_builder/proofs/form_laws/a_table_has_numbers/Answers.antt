use Rattle.commit_builder.proofs.Numbers.{has_numbers}
use Rattle.commit_builder.proofs.form_laws.a_table_has_numbers.Goals as goal

pub returns : goal.returns
returns c = λ head now version files is small hour few. has_numbers head now version files is small hour few
