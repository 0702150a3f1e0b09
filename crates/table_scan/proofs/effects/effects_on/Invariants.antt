use Rattle.std.proofs.Common.{◌≡◌, map, flat_map, take}
use Rattle.sql_statements.specs.Effects.{replacements}
use Rattle.table_scan.specs.Decisions.{decision_for, hit_rows}
use Rattle.table_scan.proofs.effects.effects_on.Given as goal

abbrev pub invariant-loop-file : goal.invariant-loop-file
invariant-loop-file l = record {
  decided : l.decisions ≡ map (decision_for l.sources l.statement) (hit_rows (take l.file-index l.scanned));
  replaced : l.made ≡ flat_map (replacements l.sources l.statement) (hit_rows (take l.file-index l.scanned));
}
