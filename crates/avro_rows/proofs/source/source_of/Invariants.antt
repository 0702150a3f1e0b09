use Rattle.std.proofs.Common.{◌≡◌, ◌+◌, length}
use Rattle.avro_rows.specs.Sources.{source_from}
use Rattle.avro_rows.proofs.source.source_of.Given as goal

-- the fields that are left give the same source
abbrev pub invariant-loop-rest : goal.invariant-loop-rest
invariant-loop-rest l = record { same : source_from l.column l.place l.rest ≡ source_from l.column 0 l.fields; count : l.place + length l.rest ≡ length l.fields }

abbrev pub decreases-loop-rest : goal.decreases-loop-rest
decreases-loop-rest l = length l.rest
