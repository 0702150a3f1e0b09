use Rattle.std.proofs.Common.{◌≡◌, length}
use Rattle.plain_types.specs.Digits.{after_blanks}
use Rattle.plain_types.proofs.digits.after_blanks.Given as goal

-- the blanks that are left lead to the same place
abbrev pub invariant-loop-rest : goal.invariant-loop-rest
invariant-loop-rest l = after_blanks l.rest ≡ after_blanks l.bytes

abbrev pub decreases-loop-rest : goal.decreases-loop-rest
decreases-loop-rest l = length l.rest
