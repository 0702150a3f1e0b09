-- The rows that a statement depends on are those where its filter is True: its WHERE, and for a MERGE what ON says of the
-- target's columns alone.
use Rattle.std.specs.Prelude.{ℕ, Bool, true, false, not, if◌then◌else◌, List, Option, Some, None, unwrap_or, filter}
use Rattle.std.specs.List.{list_any}
use Rattle.row_values.specs.declared.value.Value.{Value}
use Rattle.sql_predicates.specs.declared.pred.Pred.{Pred, fold-Pred, roll-Pred}
use Rattle.sql_predicates.specs.declared.pred.Pred.TheOpen as open_pred
use Rattle.sql_predicates.specs.Positions.{pred_is_within}
use Rattle.sql_statements.specs.declared.statement.When.TheVariants.{NotMatchedBySource}
use Rattle.sql_statements.specs.declared.statement.Clause.{Clause}
use Rattle.sql_statements.specs.declared.statement.Merge.{Merge}
use Rattle.sql_statements.specs.declared.statement.Statement.{Statement}
use Rattle.sql_statements.specs.declared.statement.Statement.TheVariants as statement
use Rattle.sql_statements.specs.Clauses.{is_when, holds_on}

abbrev pub always : Pred
always = roll-Pred (open_pred.Const true)

abbrev pub never : Pred
never = roll-Pred (open_pred.Const false)

-- a predicate, and the AND of those of its top conjuncts that read the target's columns alone
pub record Split : Type 0 where
  pub whole : Pred
  pub part : Option Pred

abbrev pub conjoined : Option Pred → Option Pred → Option Pred
conjoined None b = b
conjoined (Some a) None = Some a
conjoined (Some a) (Some b) = Some (roll-Pred (open_pred.And a b))

-- a conjunct
abbrev pub leaf : ℕ → Pred → Split
leaf width p = record { whole = p; part = if pred_is_within width p then Some p else None }

abbrev pub split_level : ℕ → open_pred.Pred-F Split → Split
split_level width (open_pred.Const b) = leaf width (roll-Pred (open_pred.Const b))
split_level width (open_pred.Compare op left right) = leaf width (roll-Pred (open_pred.Compare op left right))
split_level width (open_pred.IsNull at) = leaf width (roll-Pred (open_pred.IsNull at))
split_level width (open_pred.IsNotNull at) = leaf width (roll-Pred (open_pred.IsNotNull at))
split_level width (open_pred.Not inner) = leaf width (roll-Pred (open_pred.Not inner.whole))
split_level width (open_pred.And left right) = record { whole = roll-Pred (open_pred.And left.whole right.whole); part = conjoined left.part right.part }
split_level width (open_pred.Or left right) = leaf width (roll-Pred (open_pred.Or left.whole right.whole))

abbrev pub split_of : ℕ → Pred → Split
split_of width = fold-Pred Split (split_level width)

-- what the predicate says of the first columns alone, TRUE where that is nothing
abbrev pub target_part : ℕ → Pred → Pred
target_part width p = unwrap_or (split_of width p).part always

abbrev pub is_by_source : Clause → Bool
is_by_source c = is_when c.when NotMatchedBySource

-- a clause for rows without a source row depends on every row
abbrev pub merge_filter : ℕ → Merge → Pred
merge_filter width m = if list_any is_by_source m.clauses then always else target_part width m.on

-- the filter of a statement on a table of this width
abbrev pub filter_of : ℕ → Statement → Pred
filter_of width (statement.Insert branch rows) = never
filter_of width (statement.Delete branch condition) = condition
filter_of width (statement.Update branch sets condition) = condition
filter_of width (statement.Merge m) = merge_filter width m
filter_of width (statement.CreateBranch branch) = never
filter_of width (statement.DropBranch branch) = never
filter_of width (statement.Select branch condition) = condition

-- the rows that the statement depends on
abbrev pub hits : ℕ → Statement → List (List Value) → List (List Value)
hits width s rows = filter (holds_on (filter_of width s)) rows

-- the other rows
abbrev pub misses : ℕ → Statement → List (List Value) → List (List Value)
misses width s rows = filter (λ row. not (holds_on (filter_of width s) row)) rows
