use Rattle.std.proofs.Common.{◌≡◌, [], length}
use Rattle.dml_parser.specs.Grammar.{rows_at}
use Rattle.dml_parser.proofs.form.rows_at.Given as goal

-- the words that are left lead to the same answer
abbrev pub invariant-loop-bound : goal.invariant-loop-bound
invariant-loop-bound l = rows_at l.columns l.bound l.rows l.rest ≡ rows_at l.columns l.words [] l.words

abbrev pub decreases-loop-bound : goal.decreases-loop-bound
decreases-loop-bound l = length l.bound
