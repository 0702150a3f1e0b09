use Rattle.sql_statements.proofs.RunLaws.{others_stay}
use Rattle.sql_statements.proofs.runs.other_branches_keep_their_rows.Goals as goal

pub returns : goal.returns
returns c = others_stay
