-- A step carries a serial run on.
use Rattle.std.proofs.Common.{◌≡◌, ℕ, codes, true, List, [], ◌∷◌, ◌++◌, Option, Some, None, Ok, refl, sym, ap, subst, ◌∙◌}
use Rattle.std.specs.Prelude.{option_and_then}
use Rattle.plain_types.specs.Bags.{SameBag}
use Rattle.plain_types.proofs.CallerLemmas.{SameBag-sym, SameBag-trans}
use Rattle.row_values.specs.declared.schema.Column.{Column}
use Rattle.row_values.specs.declared.value.Value.{Value}
use Rattle.sql_statements.specs.declared.statement.Source.{Source}
use Rattle.sql_statements.specs.declared.statement.Statement.{Statement}
use Rattle.sql_statements.specs.Effects.{result_of}
use Rattle.sql_statements.specs.Results.{SameBranches, SameOutcome}
use Rattle.sql_statements.specs.Serial.{Branch, State, Told, after, changed, committed, rows_on, serial, unchanged}
use Rattle.sql_statements.specs.Tables.{branch_of, is_dml}
use Rattle.sql_statements.proofs.CallerLemmas.{run_is, same_serial, serial-append}
use Rattle.session_machine.specs.declared.answer.Answer.{Answer}
use Rattle.session_machine.specs.declared.answer.Answer.TheVariants as answer
use Rattle.session_steps.specs.Steps.{IsCarriedOut, LeavesRows}
use Rattle.schedule_runner.specs.Runs.{IsSerial, main_with, told_by}

-- ---- the same tables

branches_trans : (xs ys zs : List Branch) → SameBranches xs ys → SameBranches ys zs → SameBranches xs zs
branches_trans [] [] [] h k = tt
branches_trans [] [] (z ∷ zs) h k = k
branches_trans [] (y ∷ ys) zs h k = absurd h
branches_trans (x ∷ xs) [] zs h k = absurd h
branches_trans (x ∷ xs) (y ∷ ys) [] h k = k
branches_trans (x ∷ xs) (y ∷ ys) (z ∷ zs) h k = (h.0 ∙ k.0, SameBag-trans x.rows y.rows z.rows h.1 k.1, branches_trans xs ys zs h.2 k.2)

outcome_trans : (a b c : Option State) → SameOutcome a b → SameOutcome b c → SameOutcome a c
outcome_trans None None None h k = tt
outcome_trans None None (Some c) h k = k
outcome_trans None (Some b) c h k = absurd h
outcome_trans (Some a) None c h k = absurd h
outcome_trans (Some a) (Some b) None h k = k
outcome_trans (Some a) (Some b) (Some c) h k = record { schema = h.schema ∙ k.schema; branches = branches_trans a.branches b.branches c.branches h.branches k.branches }

-- ---- one statement more

module _ (columns : List Column) (sources : List Source) (s : Statement) (dml : is_dml s ≡ true) (main : branch_of s ≡ codes "main") where
  -- on `main` with rows on which it is not refused
  after_is : (before left : List (List Value)) → result_of columns sources s before ≡ Ok left
      → after sources s (main_with columns before) ≡ Some (main_with columns left)
  after_is before left is =
      run_is sources s (main_with columns before) dml
      ∙ ap (λ (name : List ℕ). option_and_then (λ rows. changed (main_with columns before) name (result_of columns sources s rows)) (rows_on name (main_with columns before).branches)) main
      ∙ ap (changed (main_with columns before) (codes "main")) is

  one_more : (t : Told) → t.statement ≡ s → (before left rows : List (List Value)) → result_of columns sources s before ≡ Ok left
      → SameBag rows left → SameOutcome (serial sources (t ∷ []) (main_with columns before)) (Some (main_with columns rows))
  one_more t same before left rows is bag =
      let run : serial sources (t ∷ []) (main_with columns before) ≡ Some (main_with columns left) =
      ap (λ (x : Statement). option_and_then (serial sources []) (after sources x (main_with columns before))) same ∙ ap (option_and_then (serial sources [])) (after_is before left is) in
      subst (λ (o : Option State). SameOutcome o (Some (main_with columns rows))) (sym run) (record { schema = refl; branches = (refl, SameBag-sym rows left bag, tt) })

  module _ (begun : List (List Value)) (told : List Told) where
    more : (t : Told) → t.statement ≡ s → (o : Option State) → serial sources told (main_with columns begun) ≡ o
        → (before rows : List (List Value)) → SameOutcome o (Some (main_with columns before))
        → IsCarriedOut sources columns s before rows → SameOutcome (option_and_then (serial sources (t ∷ [])) o)
        (Some (main_with columns rows))
    more t same None e before rows h carried = absurd h
    more t same (Some state) e before rows h carried =
        outcome_trans (serial sources (t ∷ []) state) (serial sources (t ∷ []) (main_with columns before)) (Some (main_with columns rows)) (same_serial sources (t ∷ []) state (main_with columns before) h)
        (one_more t same before carried.0 rows carried.1 carried.2)

    carried : (t : Told) → t.statement ≡ s → (before rows : List (List Value)) → IsSerial columns sources begun told before
        → IsCarriedOut sources columns s before rows → IsSerial columns sources begun (told ++ t ∷ []) rows
    carried t same before rows h c =
        subst (λ (o : Option State). SameOutcome o (Some (main_with columns rows))) (sym (serial-append sources told (t ∷ []) (main_with columns begun)))
        (more t same (serial sources told (main_with columns begun)) refl before rows h c)

    none_more : (xs : List Told) → xs ++ [] ≡ xs
    none_more [] = refl
    none_more (x ∷ xs) = ap (λ (ys : List Told). x ∷ ys) (none_more xs)

    rests : (before rows : List (List Value)) → IsSerial columns sources begun told before → rows ≡ before → IsSerial columns sources begun (told ++ []) rows
    rests before rows h same = subst (λ (xs : List Told). IsSerial columns sources begun xs rows) (sym (none_more told)) (subst (IsSerial columns sources begun told) (sym same) h)

    pub carries_on : (said : Option Answer) (before rows : List (List Value)) → IsSerial columns sources begun told before
        → LeavesRows sources columns s said before rows → IsSerial columns sources begun (told ++ told_by s said) rows
    carries_on None before rows h leaves = rests before rows h leaves
    carries_on (Some (answer.Committed version)) before rows h leaves = carried (record { statement = s; answered = committed }) refl before rows h leaves
    carries_on (Some answer.Unchanged) before rows h leaves = carried (record { statement = s; answered = unchanged }) refl before rows h leaves
    carries_on (Some (answer.Selected selected)) before rows h leaves = rests before rows h leaves
    carries_on (Some (answer.Conflict rule name)) before rows h leaves = rests before rows h leaves
    carries_on (Some (answer.RetriesSpent count)) before rows h leaves = rests before rows h leaves
    carries_on (Some answer.Cardinality) before rows h leaves = rests before rows h leaves
    carries_on (Some answer.Overflow) before rows h leaves = rests before rows h leaves
    carries_on (Some (answer.Null column)) before rows h leaves = rests before rows h leaves
    carries_on (Some (answer.NoBranch name)) before rows h leaves = rests before rows h leaves
    carries_on (Some (answer.BranchExists name)) before rows h leaves = rests before rows h leaves
