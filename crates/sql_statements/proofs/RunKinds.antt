-- Statements that fit the columns keep each branch of a serial run to rows of the columns.
use Rattle.std.proofs.Common.{◌≡◌, ℕ, Bool, true, false, cond, List, [], ◌∷◌, ◌++◌, Option, Some, None, Ok, Err, refl, sym, ap, subst, ◌∙◌}
use Rattle.std.specs.Prelude.{codes, Result, option_and_then, is_none}
use Rattle.std.specs.List.{list_all}
use Rattle.std.proofs.lemmas.List.Folds.{list_all-append}
use Rattle.row_values.specs.declared.value.Value.{Value}
use Rattle.row_values.specs.declared.schema.Column.{Column}
use Rattle.row_values.specs.Rows.{is_row, AreRows}
use Rattle.sql_predicates.proofs.CallerLemmas.{and_left, and_right, and_both}
use Rattle.sql_statements.specs.declared.statement.Statement.{Statement}
use Rattle.sql_statements.specs.declared.statement.Statement.TheVariants as statement
use Rattle.sql_statements.specs.declared.statement.Source.{Source}
use Rattle.sql_statements.specs.declared.effect.SqlRefusal.{SqlRefusal}
use Rattle.sql_statements.specs.Effects.{result_of}
use Rattle.sql_statements.specs.Tables.{branch_of}
use Rattle.sql_statements.specs.Serial.{Branch, State, Told, same_name, rows_on, without, with_rows, with_branches, changed, created, run_on, after, serial}
use Rattle.sql_statements.specs.Kinds.{statement_fits, source_has_rows, branch_has_rows, told_fits}
use Rattle.sql_statements.proofs.KindLaws.{rows_stay}

-- a state of these columns, each of whose branches has rows of them
pub record IsOf (columns : List Column) (state : State) : Type 0 where
  pub schema : state.schema ≡ columns
  pub rows : list_all (branch_has_rows columns) state.branches ≡ true

abbrev MayBeOf : List Column → Option State → Type 0
MayBeOf columns None = Unit {0}
MayBeOf columns (Some state) = IsOf columns state

module _ (columns : List Column) where
  rows_there : (name : List ℕ) (bs : List Branch) (rows : List (List Value)) → list_all (branch_has_rows columns) bs ≡ true
      → rows_on name bs ≡ Some rows → AreRows columns rows
  rows_there name [] rows are h = absurd cc
  rows_there name (b ∷ bs) rows are h = by (same_name b.name name) (rows_there name bs rows (and_right (branch_has_rows columns b) _ are)) h
    where
      by : (here : Bool) → (rows_on name bs ≡ Some rows → AreRows columns rows) → cond here (Some b.rows) (rows_on name bs) ≡ Some rows → AreRows columns rows
      by true rest is =
          let same : b.rows ≡ rows = cc in
          subst (λ all. AreRows columns all) same (and_left _ _ are)
      by false rest is = rest is

  with_rows_are : (name : List ℕ) (rows : List (List Value)) → AreRows columns rows → (bs : List Branch)
      → list_all (branch_has_rows columns) bs ≡ true → list_all (branch_has_rows columns) (with_rows name rows bs) ≡ true
  with_rows_are name rows good [] are = refl
  with_rows_are name rows good (b ∷ bs) are = by (same_name b.name name) (with_rows_are name rows good bs (and_right (branch_has_rows columns b) _ are))
    where
      by : (here : Bool) → list_all (branch_has_rows columns) (with_rows name rows bs) ≡ true
          → list_all (branch_has_rows columns) (cond here (record { name = b.name; rows = rows } ∷ with_rows name rows bs)
          (b ∷ with_rows name rows bs)) ≡ true
      by true rest = and_both (list_all (is_row columns) rows) _ good rest
      by false rest = and_both (branch_has_rows columns b) _ (and_left _ _ are) rest

  without_are : (name : List ℕ) (bs : List Branch) → list_all (branch_has_rows columns) bs ≡ true → list_all (branch_has_rows columns) (without name bs) ≡ true
  without_are name [] are = refl
  without_are name (b ∷ bs) are = by (same_name b.name name) (without_are name bs (and_right (branch_has_rows columns b) _ are))
    where
      by : (here : Bool) → list_all (branch_has_rows columns) (without name bs) ≡ true
          → list_all (branch_has_rows columns) (cond here (without name bs) (b ∷ without name bs)) ≡ true
      by true rest = rest
      by false rest = and_both (branch_has_rows columns b) _ (and_left _ _ are) rest

  module _ (sources : List Source) (good : list_all source_has_rows sources ≡ true) (state : State) (is : IsOf columns state) where
    changed_is : (name : List ℕ) (result : Result (List (List Value)) SqlRefusal)
        → ((left : List (List Value)) → result ≡ Ok left → AreRows columns left) → MayBeOf columns (changed state name result)
    changed_is name (Ok left) are = record { schema = is.schema; rows = with_rows_are name left (are left refl) state.branches is.rows }
    changed_is name (Err why) are = tt

    run_is : (s : Statement) → statement_fits columns sources s ≡ true → (there : Option (List (List Value)))
        → rows_on (branch_of s) state.branches ≡ there → MayBeOf columns (option_and_then (run_on sources state s) there)
    run_is s fit None at = tt
    run_is s fit (Some rows) at =
        changed_is (branch_of s) (result_of state.schema sources s rows)
        (λ left h. rows_stay columns sources s rows left good fit (rows_there (branch_of s) state.branches rows is.rows at) (ap (λ cs. result_of cs sources s rows) (sym is.schema) ∙ h))

    created_is : (name : List ℕ) (main : Option (List (List Value))) → rows_on (codes "main") state.branches ≡ main
        → MayBeOf columns (option_and_then (created state name) main)
    created_is name None at = tt
    created_is name (Some rows) at = by (is_none (rows_on name state.branches))
      where
        by : (free : Bool) → MayBeOf columns (cond free (Some (with_branches state (state.branches ++ record { name = name; rows = rows } ∷ []))) None)
        by true = record {
          schema = is.schema;
          rows =
              list_all-append (branch_has_rows columns) state.branches (record { name = name; rows = rows } ∷ [])
              ∙ and_both _ _ is.rows (and_both (list_all (is_row columns) rows) true (rows_there (codes "main") state.branches rows is.rows at) refl);
        }
        by false = tt

    dropped_is : (name : List ℕ) (there : Option (List (List Value)))
        → MayBeOf columns (option_and_then (λ rows. Some (with_branches state (without name state.branches))) there)
    dropped_is name None = tt
    dropped_is name (Some rows) = record { schema = is.schema; rows = without_are name state.branches is.rows }

    after_is : (s : Statement) → statement_fits columns sources s ≡ true → MayBeOf columns (after sources s state)
    after_is (statement.CreateBranch name) fit = created_is name _ refl
    after_is (statement.DropBranch name) fit = dropped_is name (rows_on name state.branches)
    after_is (statement.Insert name tuples) fit = run_is (statement.Insert name tuples) fit _ refl
    after_is (statement.Delete name filter) fit = run_is (statement.Delete name filter) fit _ refl
    after_is (statement.Update name sets filter) fit = run_is (statement.Update name sets filter) fit _ refl
    after_is (statement.Merge m) fit = run_is (statement.Merge m) fit _ refl
    after_is (statement.Select name filter) fit = run_is (statement.Select name filter) fit _ refl

  serial_is : (sources : List Source) → list_all source_has_rows sources ≡ true → (told : List Told)
      → list_all (told_fits columns sources) told ≡ true → (state : State) → IsOf columns state
      → MayBeOf columns (serial sources told state)
  serial_is sources good [] fit state is = is
  serial_is sources good (t ∷ told) fit state is =
      by (after sources t.statement state) (serial_is sources good told (and_right (told_fits columns sources t) _ fit)) (after_is sources good state is t.statement (and_left _ _ fit))
    where
      by : (next : Option State) → ((later : State) → IsOf columns later → MayBeOf columns (serial sources told later))
          → MayBeOf columns next → MayBeOf columns (option_and_then (serial sources told) next)
      by None rest of = tt
      by (Some next) rest of = rest next of

-- a run of statements that fit keeps to rows of the columns
pub run_keeps_rows : (sources : List Source) (told : List Told) (state end : State) → list_all source_has_rows sources ≡ true
    → list_all (told_fits state.schema sources) told ≡ true → list_all (branch_has_rows state.schema) state.branches ≡ true
    → serial sources told state ≡ Some end → list_all (branch_has_rows state.schema) end.branches ≡ true
run_keeps_rows sources told state end good fit are h = ended (subst (MayBeOf state.schema) h (serial_is state.schema sources good told fit state (record { schema = refl; rows = are })))
  where
    ended : IsOf state.schema end → list_all (branch_has_rows state.schema) end.branches ≡ true
    ended e = e.rows
