-- MERGE INTO (Iceberg's Spark pages, "MERGE INTO"): which clause applies to a row, what it does, and when two source rows for
-- one target row are refused. A row in sight is a target row and then a source row; the side that is missing is NULLs.
use Rattle.std.specs.Prelude.{ℕ, Bool, true, false, not, ◌&&◌, ◌||◌, nat_le, if◌then◌else◌, List, [], ◌∷◌, ◌++◌, length, replicate, Option, Some, None}
use Rattle.std.specs.List.{list_any, flat_map, count_by}
use Rattle.row_values.specs.declared.value.Value.{Value}
use Rattle.row_values.specs.declared.value.Value.TheVariants as value
use Rattle.sql_predicates.specs.declared.truth.Truth.{Truth}
use Rattle.sql_predicates.specs.declared.truth.Truth.TheVariants.{True}
use Rattle.sql_predicates.specs.declared.pred.Pred.{Pred, fold-Pred}
use Rattle.sql_predicates.specs.declared.pred.Pred.TheOpen as open_pred
use Rattle.sql_predicates.specs.Truth.{truth}
use Rattle.sql_statements.specs.declared.statement.When.{When}
use Rattle.sql_statements.specs.declared.statement.When.TheVariants.{Matched, NotMatched, NotMatchedBySource}
use Rattle.sql_statements.specs.declared.statement.Action.{Action}
use Rattle.sql_statements.specs.declared.statement.Action.TheVariants as action
use Rattle.sql_statements.specs.declared.statement.Clause.{Clause}
use Rattle.sql_statements.specs.declared.effect.Effect.{Effect}
use Rattle.sql_statements.specs.declared.effect.Effect.TheVariants.{Keep, Remove, Replace}
use Rattle.sql_statements.specs.NewRows.{NewRow, new_row, updated}

abbrev pub is_true : Truth → Bool
is_true True = true
is_true _ = false

-- the predicate is True of the row
abbrev pub holds_on : Pred → List Value → Bool
holds_on pred row = is_true (truth pred row)

-- as many NULLs
abbrev pub nulls : ℕ → List Value
nulls width = replicate width value.Null

-- the target row beside the source row, if ON is True of the two
unfoldable pub match_of : Pred → List Value → List Value → List (List Value)
match_of on target row = if holds_on on (target ++ row) then (target ++ row) ∷ [] else []

-- the target row beside each source row for which ON is True
abbrev pub matches : Pred → List (List Value) → List Value → List (List Value)
matches on rows target = flat_map (match_of on target) rows

unfoldable pub is_match : Pred → List Value → List Value → Bool
is_match on row target = holds_on on (target ++ row)

-- some target row matches the source row
abbrev pub is_matched : Pred → List (List Value) → List Value → Bool
is_matched on targets row = list_any (is_match on row) targets

abbrev pub is_when : When → When → Bool
is_when Matched Matched = true
is_when NotMatched NotMatched = true
is_when NotMatchedBySource NotMatchedBySource = true
is_when _ _ = false

-- the clause is for such rows, and its condition is True
unfoldable pub applies : When → Clause → List Value → Bool
applies when c sight = is_when c.when when && holds_on c.condition sight

-- the action of the first clause that applies
abbrev pub chosen : When → List Clause → List Value → Option Action
chosen when [] sight = None
chosen when (c ∷ clauses) sight =
    if applies when c sight then Some c.action else chosen when clauses sight

-- what the action does with a target row; no INSERT stands there
abbrev pub acted : List Value → List Value → Option Action → Effect
acted target sight (Some (action.Update sets)) = Replace (updated sets sight target)
acted target sight (Some action.Delete) = Remove
acted target sight (Some (action.Insert exprs)) = Keep
acted target sight None = Keep

-- with a source row the first of them decides, with none the clauses for rows without a source row
abbrev pub effect_by : List Clause → List Value → List Value → List (List Value) → Effect
effect_by clauses target padding (sight ∷ sights) = acted target sight (chosen Matched clauses sight)
effect_by clauses target padding [] = acted target (target ++ padding) (chosen NotMatchedBySource clauses (target ++ padding))

-- the row that an INSERT makes
abbrev pub inserted_by : List Value → Option Action → List NewRow
inserted_by sight (Some (action.Insert exprs)) = new_row sight exprs ∷ []
inserted_by sight _ = []

-- the rows that one source row brings
unfoldable pub insertion : Pred → List Clause → List (List Value) → List Value → List Value → List NewRow
insertion on clauses targets padding row =
    if is_matched on targets row then [] else inserted_by (padding ++ row) (chosen NotMatched clauses (padding ++ row))

abbrev pub const_level : open_pred.Pred-F Bool → Bool
const_level (open_pred.Const b) = b
const_level _ = false

-- the constant TRUE, which as a condition counts as none
abbrev pub is_const_true : Pred → Bool
is_const_true = fold-Pred Bool const_level

abbrev pub is_delete : Action → Bool
is_delete action.Delete = true
is_delete _ = false

unfoldable pub is_for_matched : Clause → Bool
is_for_matched c = is_when c.when Matched

-- a MATCHED clause that is not a DELETE without a condition
unfoldable pub wants_one : Clause → Bool
wants_one c = is_when c.when Matched && not (is_delete c.action && is_const_true c.condition)

-- two source rows for one target row are refused: a MATCHED clause other than a lone DELETE without a condition stands there
abbrev pub refuses_two : List Clause → Bool
refuses_two clauses = list_any wants_one clauses || nat_le 2 (count_by is_for_matched clauses)

unfoldable pub matches_two : Pred → List (List Value) → List Value → Bool
matches_two on rows target = nat_le 2 (length (matches on rows target))

-- some target row has two source rows
abbrev pub has_two : Pred → List (List Value) → List (List Value) → Bool
has_two on rows targets = list_any (matches_two on rows) targets
