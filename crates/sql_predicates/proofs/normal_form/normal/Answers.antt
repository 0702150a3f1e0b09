use Rattle.std.proofs.Common.{◌≡◌, ℕ, List, IsTrue, ap, ◌∙◌}
use Rattle.std.proofs.lemmas.Result.{IfOk-weaker}
use Rattle.row_values.specs.declared.value.Value.{Value}
use Rattle.sql_predicates.specs.Positions.{pred_is_within}
use Rattle.sql_predicates.specs.Truth.{truth}
use Rattle.sql_predicates.specs.NormalForm.{normal_form, has_no_not}
use Rattle.sql_predicates.proofs.NormalFormLaws.{truth-normal_form, has_no_not-normal_form, pred_is_within-normal_form}
use Rattle.sql_predicates.proofs.normal_form.normal.Goals as goal

pub returns-clause-positive : goal.returns-clause-positive
returns-clause-positive c =
    let pred = c.args.pred.now in
    IfOk-weaker _ (λ p. p ≡ normal_form pred) (λ p. IsTrue (has_no_not p)) (λ p e. ap has_no_not e ∙ has_no_not-normal_form pred) c.normal_of.ensures

pub returns-clause-truth : goal.returns-clause-truth
returns-clause-truth c =
    let pred = c.args.pred.now in
    IfOk-weaker _ (λ p. p ≡ normal_form pred) (λ p. (row : List Value) → truth p row ≡ truth pred row) (λ p e row. ap (λ q. truth q row) e ∙ truth-normal_form row pred) c.normal_of.ensures

pub returns-clause-positions : goal.returns-clause-positions
returns-clause-positions c =
    let pred = c.args.pred.now in
    IfOk-weaker _ (λ p. p ≡ normal_form pred) (λ p. (width : ℕ) → pred_is_within width p ≡ pred_is_within width pred) (λ p e width. ap (pred_is_within width) e ∙ pred_is_within-normal_form width pred) c.normal_of.ensures
