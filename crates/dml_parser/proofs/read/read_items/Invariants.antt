use Rattle.std.proofs.Common.{◌≡◌, length}
use Rattle.dml_parser.specs.Script.{read_items, started}
use Rattle.dml_parser.proofs.read.read_items.Given as goal

-- the words that are left lead to the same answer
abbrev pub invariant-loop-bound : goal.invariant-loop-bound
invariant-loop-bound l = read_items l.columns l.bound l.progress l.rest ≡ read_items l.columns l.words started l.words

abbrev pub decreases-loop-bound : goal.decreases-loop-bound
decreases-loop-bound l = length l.bound
