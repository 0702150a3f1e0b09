use Rattle.std.proofs.Common.{◌≡◌, ◌++◌, length}
use Rattle.std.specs.Vec.Iter.{into_iter_items, into_iter_len}
use Rattle.table_scan.specs.Scanning.{live_rows}
use Rattle.table_scan.proofs.live_rows.live_rows.Given as goal

-- what was taken so far has its rows
abbrev pub invariant-loop-row : goal.invariant-loop-row
invariant-loop-row l = record {
  taken : l.yielded ++ into_iter_items l.row-iterator ≡ into_iter_items l.initial.row-iterator;
  live : l.live.items ≡ live_rows l.filter l.yielded;
  left : into_iter_len l.row-iterator ≡ length (into_iter_items l.row-iterator);
}
