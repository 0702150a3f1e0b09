use Rattle.std.proofs.Common.{◌≡◌, [], length}
use Rattle.avro_rows.specs.Rows.{rows_from}
use Rattle.avro_rows.proofs.reading.read_records.Given as goal

-- the records that are left give the same rows, behind those that are read
abbrev pub invariant-loop-rest : goal.invariant-loop-rest
invariant-loop-rest l = rows_from l.sources l.rows.items l.rest ≡ rows_from l.sources [] l.records

abbrev pub decreases-loop-rest : goal.decreases-loop-rest
decreases-loop-rest l = length l.rest
