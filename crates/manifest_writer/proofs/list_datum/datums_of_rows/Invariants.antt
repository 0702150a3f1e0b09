use Rattle.std.proofs.Common.{◌≡◌, map, take}
use Rattle.std.specs.List.{AllByRecursion}
use Rattle.manifest_writer.specs.ListDatum.{datum_of_row, IsRow}
use Rattle.manifest_writer.proofs.list_datum.datums_of_rows.Given as goal

abbrev pub invariant-loop-row : goal.invariant-loop-row
invariant-loop-row l = (l.datums.items ≡ map datum_of_row (take l.row-index l.rows)) × AllByRecursion IsRow (take l.row-index l.rows)
