use Rattle.std.proofs.Common.{◌≡◌, [], length}
use Rattle.dml_parser.specs.Grammar.{row_at}
use Rattle.dml_parser.proofs.form.row_at.Given as goal

-- the columns that are left lead to the same answer
abbrev pub invariant-loop-left : goal.invariant-loop-left
invariant-loop-left l = row_at l.left l.row l.rest ≡ row_at l.columns [] l.words

abbrev pub decreases-loop-left : goal.decreases-loop-left
decreases-loop-left l = length l.left
