use Rattle.std.proofs.Common.{length, ◌<◌, ◌-◌, get_or, FitsSigned, to_z, of_z, rules, arith, ◌∙◌}
use Rattle.std.specs.Int.{w128}
use Rattle.std.proofs.lemmas.Int.{to_z-of_z}
use Rattle.kind_values.specs.BigEndian.{first_digit, digits_from}
use Rattle.kind_values.proofs.Amounts.{with_room, begins, goes_on}
use Rattle.kind_values.proofs.big_endian.digits_from.Goals as goal

pub loop-rest-init : goal.loop-rest-init
loop-rest-init c =
    let fit : FitsSigned w128 c.first_digit-number.result = search rules in
    begins (to_z w128 (of_z w128 c.first_digit-number.result)) c.args.first c.args.bytes.now (search rules) c.requires (to_z-of_z w128 c.first_digit-number.result fit ∙ c.first_digit-number.ensures)

pub next_digit-number-requires : goal.next_digit-number-requires
next_digit-number-requires c =
    let some = c.in-len1-up.len_at_least in
    with_room (15 - length c.loop-rest.rest.now) 14 _ (omega arith) c.loop-rest.invariant.within

pub loop-rest-preserved : goal.loop-rest-preserved
loop-rest-preserved c =
    let fit : FitsSigned w128 c.next_digit-number.result = search rules in
    let byte : get_or c.loop-rest.rest.now 0 0 < 256 = search rules in
    goes_on (to_z w128 c.loop-rest.number-bits) (to_z w128 (of_z w128 c.next_digit-number.result)) c.loop-rest.rest.now
    (digits_from (first_digit c.args.first) c.args.bytes.now) c.in-len1-up.len_at_least byte
    (to_z-of_z w128 c.next_digit-number.result fit ∙ c.next_digit-number.ensures) c.loop-rest.invariant
