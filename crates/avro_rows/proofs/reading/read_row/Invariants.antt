use Rattle.std.proofs.Common.{◌≡◌, [], length}
use Rattle.avro_rows.specs.Rows.{row_from}
use Rattle.avro_rows.proofs.reading.read_row.Given as goal

-- the columns that are left give the same row, behind the values that are read
abbrev pub invariant-loop-rest : goal.invariant-loop-rest
invariant-loop-rest l = row_from l.row l.values l.read.items l.rest ≡ row_from l.row l.values [] l.sources

abbrev pub decreases-loop-rest : goal.decreases-loop-rest
decreases-loop-rest l = length l.rest
