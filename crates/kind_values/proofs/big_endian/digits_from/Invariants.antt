use Rattle.std.proofs.Common.{length}
use Rattle.kind_values.specs.BigEndian.{first_digit, digits_from}
use Rattle.kind_values.proofs.Amounts.{GivesAmount}
use Rattle.kind_values.proofs.big_endian.digits_from.Given as goal

-- the bytes that are left give the same number, which has room for them
abbrev pub invariant-loop-rest : goal.invariant-loop-rest
invariant-loop-rest l = GivesAmount l.number l.rest (digits_from (first_digit l.first) l.bytes)

abbrev pub decreases-loop-rest : goal.decreases-loop-rest
decreases-loop-rest l = length l.rest
