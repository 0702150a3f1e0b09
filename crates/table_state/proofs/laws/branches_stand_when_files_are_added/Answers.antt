use Rattle.table_state.proofs.Standing.{live_stands, rows_of_branch_stand}
use Rattle.table_state.proofs.laws.branches_stand_when_files_are_added.Goals as goal

pub returns-clause-live : goal.returns-clause-live
returns-clause-live c = λ now later kept table version branch state e. live_stands now later kept table version branch state e

pub returns-clause-rows : goal.returns-clause-rows
returns-clause-rows c = λ now later kept table version branch rows e. rows_of_branch_stand now later kept table version branch rows e
