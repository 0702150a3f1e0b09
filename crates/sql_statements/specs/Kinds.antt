-- A statement whose expressions fit the kinds of the columns that take their values (SQL standard, "Store assignment"). An
-- amount is reckoned in 38 digits, and refused where its column has fewer.
use Rattle.std.specs.Prelude.{Bool, true, false, ◌&&◌, List, [], ◌∷◌, ◌++◌, Option, Some, None, slice_get}
use Rattle.std.specs.List.{list_all}
use Rattle.row_values.specs.declared.kind.Kind.{Kind}
use Rattle.row_values.specs.declared.kind.Kind.TheVariants as kind
use Rattle.row_values.specs.declared.schema.Column.{Column}
use Rattle.row_values.specs.Rows.{is_row}
use Rattle.sql_predicates.specs.declared.expr.Expr.{Expr}
use Rattle.sql_predicates.specs.Kinds.{fits}
use Rattle.sql_statements.specs.declared.statement.Set.{Set}
use Rattle.sql_statements.specs.declared.statement.Action.{Action}
use Rattle.sql_statements.specs.declared.statement.Action.TheVariants as action
use Rattle.sql_statements.specs.declared.statement.Clause.{Clause}
use Rattle.sql_statements.specs.declared.statement.Merge.{Merge}
use Rattle.sql_statements.specs.declared.statement.Source.{Source}
use Rattle.sql_statements.specs.declared.statement.Statement.{Statement}
use Rattle.sql_statements.specs.declared.statement.Statement.TheVariants as statement
use Rattle.sql_statements.specs.Effects.{source_at}
use Rattle.sql_statements.specs.Serial.{Branch, Told}

-- the kind with as many digits as there are
abbrev pub widest : Kind → Kind
widest (kind.Decimal precision scale) = kind.Decimal 38 scale
widest other = other

-- an expression over rows in sight, for a column
abbrev pub value_fits : List Column → Expr → Column → Bool
value_fits sight expr column = fits sight expr (widest column.kind)

-- one expression for each column
abbrev pub exprs_fit : List Column → List Column → List Expr → Bool
exprs_fit sight [] [] = true
exprs_fit sight (column ∷ columns) (expr ∷ exprs) = value_fits sight expr column && exprs_fit sight columns exprs
exprs_fit sight [] (expr ∷ exprs) = false
exprs_fit sight (column ∷ columns) [] = false

abbrev pub target_fits : List Column → Expr → Option Column → Bool
target_fits sight expr None = false
target_fits sight expr (Some column) = value_fits sight expr column

abbrev pub set_fits : List Column → List Column → Set → Bool
set_fits sight columns s = target_fits sight s.expr (slice_get columns s.column)

abbrev pub action_fits : List Column → List Column → Action → Bool
action_fits sight columns (action.Update sets) = list_all (set_fits sight columns) sets
action_fits sight columns action.Delete = true
action_fits sight columns (action.Insert exprs) = exprs_fit sight columns exprs

abbrev pub clause_fits : List Column → List Column → Clause → Bool
clause_fits sight columns c = action_fits sight columns c.action

abbrev pub merge_fits : List Column → Source → Merge → Bool
merge_fits columns source m = list_all (clause_fits (columns ++ source.columns) columns) m.clauses

-- each expression of the statement fits its column
abbrev pub statement_fits : List Column → List Source → Statement → Bool
statement_fits columns sources (statement.Insert branch tuples) = list_all (exprs_fit [] columns) tuples
statement_fits columns sources (statement.Delete branch filter) = true
statement_fits columns sources (statement.Update branch sets filter) = list_all (set_fits columns columns) sets
statement_fits columns sources (statement.Merge m) = merge_fits columns (source_at sources m.source) m
statement_fits columns sources (statement.CreateBranch branch) = true
statement_fits columns sources (statement.DropBranch branch) = true
statement_fits columns sources (statement.Select branch filter) = true

-- the rows of a source are rows of its columns
abbrev pub source_has_rows : Source → Bool
source_has_rows source = list_all (is_row source.columns) source.rows

-- the rows of the branch are rows of the columns
abbrev pub branch_has_rows : List Column → Branch → Bool
branch_has_rows columns b = list_all (is_row columns) b.rows

abbrev pub told_fits : List Column → List Source → Told → Bool
told_fits columns sources told = statement_fits columns sources told.statement
