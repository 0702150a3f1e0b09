-- A serial run: statements one after another on the branches of a table, by their definitions alone (Iceberg's Spark pages,
-- "Branches").
use Rattle.std.specs.Prelude.{ℕ, Bool, if◌then◌else◌, nat_eq, codes, List, [], ◌∷◌, ◌++◌, Option, Some, None, option_and_then, is_none, Result, Ok, Err}
use Rattle.std.specs.Cmp.Lexicographic.{pointwise}
use Rattle.row_values.specs.declared.value.Value.{Value}
use Rattle.row_values.specs.declared.schema.Column.{Column}
use Rattle.sql_statements.specs.declared.statement.Statement.{Statement}
use Rattle.sql_statements.specs.declared.statement.Statement.TheVariants as statement
use Rattle.sql_statements.specs.declared.statement.Source.{Source}
use Rattle.sql_statements.specs.declared.effect.SqlRefusal.{SqlRefusal}
use Rattle.sql_statements.specs.Effects.{result_of}
use Rattle.sql_statements.specs.Tables.{branch_of}

pub record Branch : Type 0 where
  pub name : List ℕ
  pub rows : List (List Value)

-- the columns of the table, and its branches
pub record State : Type 0 where
  pub schema : List Column
  pub branches : List Branch

-- how a statement was answered
pub data Answered : Type 0 where
  committed : Answered
  unchanged : Answered

pub record Told : Type 0 where
  pub statement : Statement
  pub answered : Answered

abbrev pub same_name : List ℕ → List ℕ → Bool
same_name = pointwise nat_eq

-- the rows of the branch of that name
abbrev pub rows_on : List ℕ → List Branch → Option (List (List Value))
rows_on name [] = None
rows_on name (b ∷ branches) = if same_name b.name name then Some b.rows else rows_on name branches

abbrev pub without : List ℕ → List Branch → List Branch
without name [] = []
without name (b ∷ branches) = if same_name b.name name then without name branches else b ∷ without name branches

-- the branch of that name takes these rows
abbrev pub with_rows : List ℕ → List (List Value) → List Branch → List Branch
with_rows name rows [] = []
with_rows name rows (b ∷ branches) =
    if same_name b.name name then record { name = b.name; rows = rows } ∷ with_rows name rows branches else b ∷ with_rows name rows branches

abbrev pub with_branches : State → List Branch → State
with_branches state branches = record { schema = state.schema; branches = branches }

abbrev pub changed : State → List ℕ → Result (List (List Value)) SqlRefusal → Option State
changed state name (Ok rows) = Some (with_branches state (with_rows name rows state.branches))
changed state name (Err why) = None

-- a branch of that name, which was not there, with the rows of `main`
abbrev pub created : State → List ℕ → List (List Value) → Option State
created state name rows =
    if is_none (rows_on name state.branches) then Some (with_branches state (state.branches ++ record { name = name; rows = rows } ∷ [])) else None

-- a statement on the rows of its branch
abbrev pub run_on : List Source → State → Statement → List (List Value) → Option State
run_on sources state s rows = changed state (branch_of s) (result_of state.schema sources s rows)

-- the state after a statement; nothing where its branch is not there, or where it is refused
abbrev pub after : List Source → Statement → State → Option State
after sources (statement.CreateBranch branch) state = option_and_then (created state branch) (rows_on (codes "main") state.branches)
after sources (statement.DropBranch branch) state =
    option_and_then (λ rows. Some (with_branches state (without branch state.branches))) (rows_on branch state.branches)
after sources s state = option_and_then (run_on sources state s) (rows_on (branch_of s) state.branches)

-- the state after all statements, in order
abbrev pub serial : List Source → List Told → State → Option State
serial sources [] state = Some state
serial sources (told ∷ rest) state = option_and_then (serial sources rest) (after sources told.statement state)
