use Rattle.std.proofs.Common.{◌≡◌, flat_map, take}
use Rattle.table_scan.specs.Decisions.{hit_in}
use Rattle.table_scan.proofs.hits.hit_rows.Given as goal

abbrev pub invariant-loop-file : goal.invariant-loop-file
invariant-loop-file l = l.rows.items ≡ flat_map hit_in (take l.file-index l.scanned)
