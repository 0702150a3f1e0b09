use Rattle.std.proofs.Common.{◌≡◌, length}
use Rattle.plain_types.specs.Digits.{after_text}
use Rattle.plain_types.proofs.digits.after_text.Given as goal

-- what is left of both leads to the same place
abbrev pub invariant-loop-left : goal.invariant-loop-left
invariant-loop-left l = after_text l.left l.rest ≡ after_text l.front l.bytes

abbrev pub decreases-loop-left : goal.decreases-loop-left
decreases-loop-left l = length l.left
