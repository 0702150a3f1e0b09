-- What an item means, once its form is known: names first, then kinds, then limits. A name is a column of the table, compared
-- exactly, and `t` may stand before it.
use Rattle.std.specs.Prelude.{ℕ, nat_eq, nat_lt, not, codes, ◌+◌, List, [], ◌∷◌, Bool, true, Option, Some, None, Ok, ⊤, if◌then◌else◌}
use Rattle.std.specs.Cmp.Lexicographic.{pointwise}
use Rattle.plain_types.specs.Steps.{◌>>=◌, fault_if, or_fault}
use Rattle.row_values.specs.declared.kind.Kind.{Kind}
use Rattle.row_values.specs.declared.schema.Column.{Column}
use Rattle.sql_predicates.specs.declared.pred.Op.TheVariants as op
use Rattle.sql_predicates.specs.declared.pred.Operand.TheVariants as operand
use Rattle.sql_predicates.specs.declared.pred.Pred.{Pred, roll-Pred}
use Rattle.sql_predicates.specs.declared.pred.Pred.TheOpen as open_pred
use Rattle.sql_statements.specs.declared.statement.Statement.{Statement}
use Rattle.sql_statements.specs.declared.statement.Statement.TheVariants as statement
use Rattle.dml_parser.specs.declared.raw.ColumnName.{ColumnName}
use Rattle.dml_parser.specs.declared.raw.Equality.{Equality}
use Rattle.dml_parser.specs.declared.raw.Literal.{Literal}
use Rattle.dml_parser.specs.declared.raw.PlacedName.{PlacedName}
use Rattle.dml_parser.specs.declared.script.ScriptFault.TheVariants as fault
use Rattle.dml_parser.specs.Answer.{Parsed}
use Rattle.dml_parser.specs.Grammar.{is_table_name}
use Rattle.dml_parser.specs.Values.{limits_of_rows, literal_limit, value_of, values_of_rows}

-- A script has at most 4,096 statements: one more shows at its first word.
unfoldable pub check_room : ℕ → ℕ → Parsed ⊤
check_room count line = fault_if (fault.Limit line) (not (nat_lt count 4096))

-- the statement that inserts these rows, after so many statements
unfoldable pub insert_of : List Column → ℕ → ℕ → List (List Literal) → Parsed Statement
insert_of columns count line rows = do
  values ← values_of_rows columns [] rows
  _ ← check_room count line
  _ ← limits_of_rows rows
  Ok (statement.Insert (codes "main") values)

-- the name before a column's is the table's
unfoldable pub table_stands : Option PlacedName → Parsed ⊤
table_stands None = Ok tt
table_stands (Some name) = fault_if (fault.Name name.line) (not (is_table_name name.text))

abbrev pub is_column : List ℕ → Column → Bool
is_column name column = pointwise nat_eq column.name name

-- where the first column of this name stands, counted on from a position, and its kind
unfoldable pub column_from : List ℕ → ℕ → List Column → Option (ℕ × Kind)
column_from name at [] = None
column_from name at (column ∷ columns) = if is_column name column then Some (at, column.kind) else column_from name (at + 1) columns

-- where the column of this name stands, and its kind
unfoldable pub column_of : List Column → ColumnName → Parsed (ℕ × Kind)
column_of columns name = do
  _ ← table_stands name.table
  or_fault (fault.Name name.column.line) (column_from name.column.text 0 columns)

-- the predicate that the column equals the literal
unfoldable pub equality_of : List Column → Equality → Parsed Pred
equality_of columns equality = do
  column ← column_of columns equality.column
  v ← value_of column.1 equality.literal
  Ok (roll-Pred (open_pred.Compare op.Equal (operand.Column column.0) (operand.Literal v)))

unfoldable pub where_of : List Column → ℕ → ℕ → Equality → Parsed Pred
where_of columns count line equality = do
  filter ← equality_of columns equality
  _ ← check_room count line
  _ ← literal_limit equality.literal
  Ok filter

-- what is deleted: without WHERE every row
abbrev pub filter_of : List Column → ℕ → ℕ → Option Equality → Parsed Pred
filter_of columns count line (Some equality) = where_of columns count line equality
filter_of columns count line None = check_room count line >>= λ _. Ok (roll-Pred (open_pred.Const true))

unfoldable pub delete_of : List Column → ℕ → ℕ → Option Equality → Parsed Statement
delete_of columns count line equality = do
  filter ← filter_of columns count line equality
  Ok (statement.Delete (codes "main") filter)
