use Rattle.std.proofs.Common.{◌≡◌, [], length}
use Rattle.manifest_files.specs.Statistics.{stats_from}
use Rattle.manifest_files.proofs.statistics.stats_of.Given as goal

-- the columns that are left give the same statistics, behind those that are read
abbrev pub invariant-loop-rest : goal.invariant-loop-rest
invariant-loop-rest l = stats_from l.places l.file l.stats.items l.rest ≡ stats_from l.places l.file [] l.columns

abbrev pub decreases-loop-rest : goal.decreases-loop-rest
decreases-loop-rest l = length l.rest
