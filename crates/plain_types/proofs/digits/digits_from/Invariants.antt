use Rattle.std.proofs.Common.{◌≡◌, length}
use Rattle.plain_types.specs.Digits.{digits_from}
use Rattle.plain_types.proofs.digits.digits_from.Given as goal

-- the digits that are left continue the number to the same end
abbrev pub invariant-loop-rest : goal.invariant-loop-rest
invariant-loop-rest l = digits_from l.number l.rest ≡ digits_from 0 l.bytes

abbrev pub decreases-loop-rest : goal.decreases-loop-rest
decreases-loop-rest l = length l.rest
