use Rattle.std.proofs.Common.{◌≡◌, sym, ◌∙◌}
use Rattle.std.proofs.lemmas.Result.{IfOk-weaker}
use Rattle.sql_predicates.specs.declared.pred.Pred.TheVariants as pred
use Rattle.sql_statements.specs.Filter.{leaf, split_of}
use Rattle.sql_statements.proofs.FilterLaws.{part_of_leaf}
use Rattle.sql_statements.proofs.filter.+part_of.Goals as goal

pub returns-in_default : goal.returns-in_default
returns-in_default t c =
    let p = c.args.pred.now in
    let width = c.args.width in
    let leaf_is = part_of_leaf width p (λ left right is. c.in_default.not-And left right (is ∙ pred.rolls-And left right)) in
    IfOk-weaker _ (λ part. part ≡ (leaf width p).part) (λ part. part ≡ (split_of width p).part) (λ part e. e ∙ sym leaf_is) c.leaf.ensures
