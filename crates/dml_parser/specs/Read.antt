-- A script that was read on a table of these columns (SQL standard, "Store assignment"): each statement changes `main`, it
-- reads columns that are there, and what it makes is of the kinds of the columns that take it.
use Rattle.std.specs.Prelude.{◌≡◌, ◌≢◌, ◌≤◌, ℕ, codes, true, List, [], length, IsTrue}
use Rattle.std.specs.List.{AllByRecursion}
use Rattle.row_values.specs.declared.schema.Column.{Column}
use Rattle.sql_predicates.specs.Positions.{pred_is_within}
use Rattle.sql_statements.specs.declared.statement.Statement.{Statement}
use Rattle.sql_statements.specs.Filter.{filter_of}
use Rattle.sql_statements.specs.Fits.{statement_is_within}
use Rattle.sql_statements.specs.Kinds.{statement_fits}
use Rattle.sql_statements.specs.Tables.{branch_of, is_dml}
use Rattle.dml_parser.specs.declared.script.Script.{Script}
use Rattle.dml_parser.specs.declared.script.SessionItem.{SessionItem}
use Rattle.dml_parser.specs.Literals.{is_session_name}

-- a statement that was read by these columns
pub record IsRead (columns : List Column) (s : Statement) : Type 0 where
  pub branch : branch_of s ≡ codes "main"
  pub changes : is_dml s ≡ true
  pub within : IsTrue (statement_is_within (length columns) [] s)
  pub filters : IsTrue (pred_is_within (length columns) (filter_of (length columns) s))
  pub fits : IsTrue (statement_fits columns [] s)

abbrev pub AreRead : List Column → Script → Type 0
AreRead columns script = AllByRecursion (λ (item : SessionItem). AllByRecursion (IsRead columns) item.statements) script.sessions

-- each session has a name with this property
abbrev pub AreNamed : (List ℕ → Type 0) → Script → Type 0
AreNamed P script = AllByRecursion (λ (item : SessionItem). P item.name) script.sessions

abbrev pub IsPlainName : List ℕ → Type 0
IsPlainName name = IsTrue (is_session_name name)

-- the name has no such byte
abbrev pub HasNo : ℕ → List ℕ → Type 0
HasNo byte name = AllByRecursion (λ (b : ℕ). b ≢ byte) name

-- at most one session, and at most 4,096 statements in it
pub record IsShort (script : Script) : Type 0 where
  pub sessions_count : length script.sessions ≤ 1
  pub statements_count : AllByRecursion (λ (item : SessionItem). length item.statements ≤ 4096) script.sessions
