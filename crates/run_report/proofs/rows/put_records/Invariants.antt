use Rattle.std.proofs.Common.{◌≡◌, ◌++◌, take}
use Rattle.std.specs.List.{flat_map}
use Rattle.run_report.specs.Report.{row_line}
use Rattle.run_report.proofs.rows.put_records.Given as goal

abbrev pub invariant-loop-text : goal.invariant-loop-text
invariant-loop-text l = l.out.items ≡ l.initial.out.items ++ flat_map row_line (take l.text-index l.records)
