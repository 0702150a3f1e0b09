use Rattle.table_scan.proofs.HitLaws.{hits_decide, hits_insert, hits_refuse}
use Rattle.table_scan.proofs.decision_laws.the_hits_decide_for_the_branch.Goals as goal

pub returns-clause-inserted : goal.returns-clause-inserted
returns-clause-inserted c = λ table parts width sources s entries files scanned rows is found wide. hits_insert table parts files s width entries scanned rows is found wide sources

pub returns-clause-decided : goal.returns-clause-decided
returns-clause-decided c = λ table parts width sources s entries files scanned rows is found wide. hits_decide table parts files s width entries scanned rows is found wide sources

pub returns-clause-refused : goal.returns-clause-refused
returns-clause-refused c = λ table parts columns sources s entries files scanned rows is found wide. hits_refuse table parts files s columns entries scanned rows is found wide sources
