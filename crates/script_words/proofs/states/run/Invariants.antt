use Rattle.std.proofs.Common.{◌≡◌, length}
use Rattle.script_words.specs.Lexer.{fresh}
use Rattle.script_words.specs.Words.{run}
use Rattle.script_words.proofs.states.run.Given as goal

-- the bytes that are left lead to the same place
abbrev pub invariant-loop-rest : goal.invariant-loop-rest
invariant-loop-rest l = run l.rest l.lexer ≡ run l.bytes fresh

abbrev pub decreases-loop-rest : goal.decreases-loop-rest
decreases-loop-rest l = length l.rest
