use Rattle.std.proofs.Common.{◌≡◌, [], length}
use Rattle.manifest_files.specs.Statistics.{with_columns}
use Rattle.manifest_files.proofs.statistics.with_columns.Given as goal

-- the columns that are left give the same list
abbrev pub invariant-loop-rest : goal.invariant-loop-rest
invariant-loop-rest l = with_columns l.known.items l.rest ≡ with_columns [] l.columns

abbrev pub decreases-loop-rest : goal.decreases-loop-rest
decreases-loop-rest l = length l.rest
