use Rattle.std.proofs.Common.{◌≡◌, ℕ, ◌^◌, ◌<◌, ◌≤◌, arith, ap, ◌∙◌}
use Rattle.std.proofs.lemmas.Int.{ints}
use Rattle.row_writer.proofs.Powers.{power_small, power_some}
use Rattle.row_writer.proofs.kinds.greatest.Goals as goal

pub pow-power-requires : goal.pow-power-requires
pow-power-requires c =
    let small : 10 ^ c.args.digits < 2 ^ 127 = power_small c.args.digits c.requires in
    rw c.from.ensures (omega arith)

pub overflow_sub-result : goal.overflow_sub-result
overflow_sub-result c =
    let same : c.pow-power.result ≡ 10 ^ c.args.digits = c.pow-power.ensures ∙ ap (λ (n : ℕ). 10 ^ n) c.from.ensures in
    let some : 1 ≤ 10 ^ c.args.digits = power_some c.args.digits in
    omega arith

pub overflow_cast-result : goal.overflow_cast-result
overflow_cast-result c =
    let same : c.pow-power.result ≡ 10 ^ c.args.digits = c.pow-power.ensures ∙ ap (λ (n : ℕ). 10 ^ n) c.from.ensures in
    let small : 10 ^ c.args.digits < 2 ^ 127 = power_small c.args.digits c.requires in
    omega (arith, ints)

pub returns : goal.returns
returns c =
    let same : c.pow-power.result ≡ 10 ^ c.args.digits = c.pow-power.ensures ∙ ap (λ (n : ℕ). 10 ^ n) c.from.ensures in
    let small : 10 ^ c.args.digits < 2 ^ 127 = power_small c.args.digits c.requires in
    omega (arith, ints)
