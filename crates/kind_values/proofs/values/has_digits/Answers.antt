use Rattle.std.specs.Int.{w128}
use Rattle.std.proofs.lemmas.Int.{to_z-of_z}
use Rattle.kind_values.proofs.Digits.{few, below, power_fits}
use Rattle.kind_values.proofs.values.has_digits.Goals as goal

pub returns-then-precision-gt-MOST_DIGITS : goal.returns-then-precision-gt-MOST_DIGITS
returns-then-precision-gt-MOST_DIGITS c = few c.args.precision c.args.amount c.if-precision-gt-MOST_DIGITS.true c.ranges.amount

pub pow-requires : goal.pow-requires
pow-requires c = rw c.from.ensures (power_fits c.args.precision c.if-precision-gt-MOST_DIGITS.false)

pub returns : goal.returns
returns c =
    let same = to_z-of_z w128 c.args.amount c.ranges.amount in
    rw (c.pow.ensures, c.from.ensures, c.unsigned_abs.ensures.value, same) (below c.args.precision c.args.amount)
