use Rattle.std.proofs.Common.{◌≡◌, ◌++◌, filter, map, take}
use Rattle.change_sets.specs.Scanned.{row_of}
use Rattle.table_scan.specs.Scanning.{is_hit}
use Rattle.table_scan.proofs.hits.add_hits.Given as goal

abbrev pub invariant-loop-live : goal.invariant-loop-live
invariant-loop-live l = l.rows.items ≡ l.initial.rows.items ++ map row_of (filter is_hit (take l.live-index l.live_rows))
