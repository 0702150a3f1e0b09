use Rattle.std.proofs.Common.{◌≡◌, ◌+◌, ◌≤◌, [], length}
use Rattle.std.specs.Option.{ForSome}
use Rattle.table_metadata.specs.Metadata.{parts}
use Rattle.table_scan.specs.Scanning.{AreCurrentFiles, scanned_from}
use Rattle.table_scan.proofs.scanning.scan_files.Given as goal

-- the files that are left, beside those that are scanned, give the same
abbrev pub invariant-loop-rest : goal.invariant-loop-rest
invariant-loop-rest g l = record {
  same : ForSome (g.S.Store.files l.initial.store)
      (λ files. scanned_from l.state.table (parts l.state.metadata) l.filter l.scanned.items l.rest files ≡ scanned_from l.state.table (parts l.state.metadata) l.filter [] l.entries files);
  rows : AreCurrentFiles (parts l.state.metadata) l.scanned.items;
  files : g.S.Store.files l.store ≡ g.S.Store.files l.initial.store;
  faults : g.S.Store.faults l.store ≡ g.S.Store.faults l.initial.store;
  reads : g.S.Store.reads l.store + length l.rest ≤ g.S.Store.reads l.initial.store + length l.entries;
}

abbrev pub decreases-loop-rest : goal.decreases-loop-rest
decreases-loop-rest g l = length l.rest
