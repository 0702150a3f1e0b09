-- What a script asks of a run (ours: no standard has it): its one session, and the statements of it.
use Rattle.std.specs.Prelude.{◌≡◌, ℕ, List, [], slice_get, Ok}
use Rattle.plain_types.specs.Steps.{by_option}
use Rattle.row_values.specs.declared.schema.TableSchema.{TableSchema}
use Rattle.sql_statements.specs.declared.statement.Statement.{Statement}
use Rattle.dml_parser.specs.declared.script.Script.{Script}
use Rattle.dml_parser.specs.Script.{script_of}

-- The script was read on a table of this schema.
abbrev pub WasRead : TableSchema → Script → Type 0
WasRead schema script = (bytes : List ℕ) × (script_of bytes schema ≡ Ok script)

abbrev pub statements_in : Script → List Statement
statements_in script = by_option (slice_get script.sessions 0) (λ item. item.statements) []

-- the name of its session
abbrev pub name_in : Script → List ℕ
name_in script = by_option (slice_get script.sessions 0) (λ item. item.name) []
