use Rattle.branch_commit.proofs.Loads.{states_stand}
use Rattle.branch_commit.proofs.laws.a_loaded_branch_stands_when_files_are_added.Goals as goal

pub returns : goal.returns
returns c = λ table branch version old later loaded kept is. states_stand table branch version old later kept loaded is
