use Rattle.std.proofs.Common.{◌≡◌, [], length}
use Rattle.avro_rows.specs.Sources.{sources_from}
use Rattle.avro_rows.proofs.source.sources_of.Given as goal

-- the columns that are left give the same sources, behind those that are found
abbrev pub invariant-loop-rest : goal.invariant-loop-rest
invariant-loop-rest l = sources_from l.fields l.sources.items l.rest ≡ sources_from l.fields [] l.columns

abbrev pub decreases-loop-rest : goal.decreases-loop-rest
decreases-loop-rest l = length l.rest
