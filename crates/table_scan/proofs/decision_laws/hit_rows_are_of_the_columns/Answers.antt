use Rattle.table_scan.proofs.HitRows.{hits_are_rows}
use Rattle.table_scan.proofs.decision_laws.hit_rows_are_of_the_columns.Goals as goal

pub returns : goal.returns
returns c = hits_are_rows
