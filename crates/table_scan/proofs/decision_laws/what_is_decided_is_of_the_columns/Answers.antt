use Rattle.table_scan.proofs.MadeLaws.{made_are_rows}
use Rattle.table_scan.proofs.decision_laws.what_is_decided_is_of_the_columns.Goals as goal

pub returns : goal.returns
returns c = made_are_rows
