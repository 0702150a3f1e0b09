-- What differs by statement, a line each.
use Rattle.std.specs.Prelude.{ℕ, Bool, true, false, List}
use Rattle.sql_statements.specs.declared.statement.Statement.{Statement}
use Rattle.sql_statements.specs.declared.statement.Statement.TheVariants as statement

-- the statement may change rows
abbrev pub is_dml : Statement → Bool
is_dml (statement.Insert branch rows) = true
is_dml (statement.Delete branch filter) = true
is_dml (statement.Update branch sets filter) = true
is_dml (statement.Merge m) = true
is_dml (statement.CreateBranch branch) = false
is_dml (statement.DropBranch branch) = false
is_dml (statement.Select branch filter) = false

-- the branch that the statement names
abbrev pub branch_of : Statement → List ℕ
branch_of (statement.Insert branch rows) = branch
branch_of (statement.Delete branch filter) = branch
branch_of (statement.Update branch sets filter) = branch
branch_of (statement.Merge m) = m.branch
branch_of (statement.CreateBranch branch) = branch
branch_of (statement.DropBranch branch) = branch
branch_of (statement.Select branch filter) = branch

-- the statement depends on no row: only whether its branch is there can stand against it
abbrev pub only_branch : Statement → Bool
only_branch (statement.Insert branch rows) = true
only_branch (statement.Delete branch filter) = false
only_branch (statement.Update branch sets filter) = false
only_branch (statement.Merge m) = false
only_branch (statement.CreateBranch branch) = true
only_branch (statement.DropBranch branch) = true
only_branch (statement.Select branch filter) = false
