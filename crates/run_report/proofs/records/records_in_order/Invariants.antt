use Rattle.std.proofs.Common.{◌≡◌, map, take}
use Rattle.run_report.specs.Records.{IsReady, record_of}
use Rattle.run_report.proofs.records.records_in_order.Given as goal

abbrev pub invariant-loop-row : goal.invariant-loop-row
invariant-loop-row l = record { text : l.records.items ≡ map record_of (take l.row-index l.rows); ready : IsReady l.writer }
