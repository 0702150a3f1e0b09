use Rattle.std.proofs.Common.{◌≡◌, length}
use Rattle.script_words.specs.PlainNames.{are_name_bytes}
use Rattle.script_words.proofs.plain_name.are_name_bytes.Given as goal

-- the bytes that are left give the same answer
abbrev pub invariant-loop-rest : goal.invariant-loop-rest
invariant-loop-rest l = are_name_bytes l.rest ≡ are_name_bytes l.bytes

abbrev pub decreases-loop-rest : goal.decreases-loop-rest
decreases-loop-rest l = length l.rest
