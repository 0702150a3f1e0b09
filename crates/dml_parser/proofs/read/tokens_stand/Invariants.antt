use Rattle.std.proofs.Common.{◌≡◌, length}
use Rattle.dml_parser.specs.Script.{tokens_stand}
use Rattle.dml_parser.proofs.read.tokens_stand.Given as goal

-- the words that are left give the same answer
abbrev pub invariant-loop-rest : goal.invariant-loop-rest
invariant-loop-rest l = tokens_stand l.rest ≡ tokens_stand l.words

abbrev pub decreases-loop-rest : goal.decreases-loop-rest
decreases-loop-rest l = length l.rest
