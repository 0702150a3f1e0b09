use Rattle.std.proofs.Common.{◌≡◌, ◌++◌, filter, map, flat_map, take}
use Rattle.sql_statements.specs.Effects.{replacements}
use Rattle.change_sets.specs.Scanned.{row_of}
use Rattle.table_scan.specs.Scanning.{is_hit}
use Rattle.table_scan.specs.Decisions.{decision_for}
use Rattle.table_scan.proofs.effects.add_file.Given as goal

abbrev pub invariant-loop-live : goal.invariant-loop-live
invariant-loop-live l = record {
  decided : l.decisions ≡ l.initial.decisions ++ map (decision_for l.sources l.statement) (map row_of (filter is_hit (take l.live-index l.live_rows)));
  replaced : l.made ≡ l.initial.made ++ flat_map (replacements l.sources l.statement) (map row_of (filter is_hit (take l.live-index l.live_rows)));
}
