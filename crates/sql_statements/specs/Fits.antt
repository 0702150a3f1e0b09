-- What a statement reads is in the rows that it sees: no row is in sight of the tuples of an INSERT; a row of the branch in
-- that of DELETE, UPDATE and SELECT; a target row and then a source row in that of MERGE.
use Rattle.std.specs.Prelude.{ℕ, ◌+◌, Bool, true, false, ◌&&◌, ◌==◌, List, length, Option, Some, None, slice_get}
use Rattle.std.specs.List.{list_all}
use Rattle.row_values.specs.declared.value.Value.{Value}
use Rattle.sql_predicates.specs.declared.expr.Expr.{Expr}
use Rattle.sql_predicates.specs.Positions.{pred_is_within, expr_is_within}
use Rattle.sql_statements.specs.declared.statement.Set.{Set}
use Rattle.sql_statements.specs.declared.statement.Action.{Action}
use Rattle.sql_statements.specs.declared.statement.Action.TheVariants as action
use Rattle.sql_statements.specs.declared.statement.Clause.{Clause}
use Rattle.sql_statements.specs.declared.statement.Merge.{Merge}
use Rattle.sql_statements.specs.declared.statement.Source.{Source}
use Rattle.sql_statements.specs.declared.statement.Statement.{Statement}
use Rattle.sql_statements.specs.declared.statement.Statement.TheVariants as statement

abbrev pub exprs_are_within : ℕ → List Expr → Bool
exprs_are_within width = list_all (expr_is_within width)

abbrev pub set_is_within : ℕ → Set → Bool
set_is_within width s = expr_is_within width s.expr

abbrev pub sets_are_within : ℕ → List Set → Bool
sets_are_within width = list_all (set_is_within width)

abbrev pub action_is_within : ℕ → Action → Bool
action_is_within width (action.Update sets) = sets_are_within width sets
action_is_within width action.Delete = true
action_is_within width (action.Insert exprs) = exprs_are_within width exprs

unfoldable pub clause_is_within : ℕ → Clause → Bool
clause_is_within width c = pred_is_within width c.condition && action_is_within width c.action

abbrev pub clauses_are_within : ℕ → List Clause → Bool
clauses_are_within width = list_all (clause_is_within width)

abbrev pub merge_is_within : ℕ → Option Source → Merge → Bool
merge_is_within width None m = false
merge_is_within width (Some source) m =
    pred_is_within (width + length source.columns) m.on && clauses_are_within (width + length source.columns) m.clauses

-- each position that the statement reads is in rows of this width and of the sources
abbrev pub statement_is_within : ℕ → List Source → Statement → Bool
statement_is_within width sources (statement.Insert branch rows) = list_all (exprs_are_within 0) rows
statement_is_within width sources (statement.Delete branch filter) = pred_is_within width filter
statement_is_within width sources (statement.Update branch sets filter) = pred_is_within width filter && sets_are_within width sets
statement_is_within width sources (statement.Merge m) = merge_is_within width (slice_get sources m.source) m
statement_is_within width sources (statement.CreateBranch branch) = true
statement_is_within width sources (statement.DropBranch branch) = true
statement_is_within width sources (statement.Select branch filter) = pred_is_within width filter

-- each row has this many values
abbrev pub are_wide : ℕ → List (List Value) → Bool
are_wide width = list_all (λ (row : List Value). length row == width)

abbrev pub source_is_wide : Source → Bool
source_is_wide source = are_wide (length source.columns) source.rows
