use Rattle.std.specs.Int.{w128}
use Rattle.std.proofs.lemmas.Int.{to_z-of_z}
use Rattle.sql_statements.proofs.Digits.{has_digits_by_size}
use Rattle.sql_statements.proofs.faults.has_digits.Goals as goal

pub returns-in-Some : goal.returns-in-Some
returns-in-Some c =
    let n = c.args.unscaled in
    has_digits_by_size c.args.precision _ _ _ n _ c.from.ensures c.in-Some.ensures.1 (to_z-of_z w128 n c.ranges.unscaled) c.unsigned_abs.ensures.value
