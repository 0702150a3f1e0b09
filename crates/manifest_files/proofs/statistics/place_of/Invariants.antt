use Rattle.std.proofs.Common.{◌≡◌, ◌+◌, length}
use Rattle.manifest_files.specs.Statistics.{place_from}
use Rattle.manifest_files.proofs.statistics.place_of.Given as goal

-- the columns that are left give the same place
abbrev pub invariant-loop-rest : goal.invariant-loop-rest
invariant-loop-rest l = record { same : place_from l.id l.place l.rest ≡ place_from l.id 0 l.columns; count : l.place + length l.rest ≡ length l.columns }

abbrev pub decreases-loop-rest : goal.decreases-loop-rest
decreases-loop-rest l = length l.rest
