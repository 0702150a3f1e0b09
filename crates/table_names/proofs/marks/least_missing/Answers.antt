use Rattle.std.proofs.Common.{◌≡◌, ℕ, sym, ap, subst, ◌∙◌}
use Rattle.table_names.specs.Marks.{first_unmarked, marks_of, IsLeastMissing}
use Rattle.table_names.proofs.LeastMissing.{is_least}
use Rattle.table_names.proofs.marks.least_missing.Goals as goal

pub returns : goal.returns
returns c =
    let marks : c.as_slice.result.now ≡ marks_of c.args.numbers.now = c.as_slice.ensures.value ∙ c.in_ok-marks.ensures in
    let place : c.first_unmarked.result ≡ first_unmarked (marks_of c.args.numbers.now) = c.first_unmarked.ensures ∙ ap first_unmarked marks in
    subst (λ (n : ℕ). IsLeastMissing c.args.numbers.now n) (sym place) (is_least c.args.numbers.now)
