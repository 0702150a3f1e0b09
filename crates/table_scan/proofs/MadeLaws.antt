-- The rows that a statement makes are among those that it leaves.
use Rattle.std.proofs.Common.{◌≡◌, ◌&&◌, Bool, true, List, [], ◌∷◌, length, map, flat_map, None, refl, sym, ap, ◌∙◌}
use Rattle.std.specs.List.{list_all}
use Rattle.std.proofs.lemmas.Bool.{and_parts}
use Rattle.std.proofs.lemmas.List.Folds.{list_all-append}
use Rattle.row_values.specs.declared.schema.Column.{Column}
use Rattle.row_values.specs.declared.value.Value.{Value}
use Rattle.row_values.specs.Rows.{AreRows, is_row}
use Rattle.sql_statements.specs.declared.effect.Effect.{Effect}
use Rattle.sql_statements.specs.declared.effect.Effect.TheVariants as effects
use Rattle.sql_statements.specs.declared.statement.Source.{Source}
use Rattle.sql_statements.specs.declared.statement.Statement.{Statement}
use Rattle.sql_statements.specs.Effects.{effect, insertions, refusal, remaining, remains, rows_after, unless_refused}
use Rattle.sql_statements.specs.Kinds.{source_has_rows, statement_fits}
use Rattle.sql_statements.specs.NewRows.{row_of as row_made}
use Rattle.sql_statements.proofs.CallerLemmas.{rows_stay as rows_are_kept}
use Rattle.change_sets.specs.declared.scanned.ScannedFile.{ScannedFile}
use Rattle.change_sets.specs.Scanned.{rows_in_all}
use Rattle.change_sets.specs.Deciding.{made_by, made_of}
use Rattle.table_scan.specs.Decisions.{decision_by, decision_for, decisions_of, hit_rows}
use Rattle.table_scan.proofs.HitRows.{hits_are_rows}

made_is_left : (test : List Value → Bool) (sources : List Source) (s : Statement) (row : List Value)
    → list_all test (remains sources s row) ≡ true → list_all test (made_by (decision_for sources s row)) ≡ true
unfolding decision_for remains
made_is_left test sources s row all = by (effect sources s row) all
  where
    by : (x : Effect) → list_all test (remaining x row) ≡ true → list_all test (made_by (decision_by x)) ≡ true
    by effects.Keep is = refl
    by effects.Remove is = refl
    by (effects.Replace new) is = is

all_made_are_left : (test : List Value → Bool) (sources : List Source) (s : Statement) (rows : List (List Value))
    → list_all test (flat_map (remains sources s) rows) ≡ true
    → list_all test (flat_map made_by (map (decision_for sources s) rows)) ≡ true
all_made_are_left test sources s [] all = refl
all_made_are_left test sources s (row ∷ rows) all =
    let both = and_parts (list_all test (remains sources s row)) (list_all test (flat_map (remains sources s) rows)) (sym (list_all-append test (remains sources s row) (flat_map (remains sources s) rows)) ∙ all) in
    list_all-append test (made_by (decision_for sources s row)) (flat_map made_by (map (decision_for sources s) rows))
    ∙ ap (λ b. b && list_all test (flat_map made_by (map (decision_for sources s) rows))) (made_is_left test sources s row both.0)
    ∙ all_made_are_left test sources s rows both.1

pub made_are_rows : (columns : List Column) (sources : List Source) (s : Statement) (scanned : List ScannedFile)
    → list_all source_has_rows sources ≡ true → statement_fits columns sources s ≡ true → AreRows columns (rows_in_all scanned)
    → refusal columns sources s (hit_rows scanned) ≡ None
    → AreRows columns (made_of (decisions_of sources s (length columns) scanned (hit_rows scanned)))
made_are_rows columns sources s scanned good fit are none =
    let rows = hit_rows scanned in
    let width = length columns in
    let left = flat_map (remains sources s) rows in
    let inserted = map row_made (insertions width sources s rows) in
    let kept : AreRows columns (rows_after width sources s rows) =
    rows_are_kept columns sources s rows (rows_after width sources s rows) good fit (hits_are_rows columns scanned are) (ap (λ why. unless_refused why (rows_after width sources s rows)) none) in
    let both = and_parts (list_all (is_row columns) left) (list_all (is_row columns) inserted) (sym (list_all-append (is_row columns) left inserted) ∙ kept) in
    list_all-append (is_row columns) (flat_map made_by (map (decision_for sources s) rows)) inserted
    ∙ ap (λ b. b && list_all (is_row columns) inserted) (all_made_are_left (is_row columns) sources s rows both.0)
    ∙ both.1
