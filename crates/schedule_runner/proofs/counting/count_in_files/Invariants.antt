use Rattle.std.proofs.Common.{◌≡◌, length}
use Rattle.std.specs.Option.{ForSome}
use Rattle.table_metadata.specs.Metadata.{parts}
use Rattle.schedule_runner.proofs.CountLaws.{Counts}
use Rattle.schedule_runner.proofs.counting.count_in_files.Given as goal

-- the files that are left, behind the rows that are counted, give the same
abbrev pub invariant-loop-rest : goal.invariant-loop-rest
invariant-loop-rest g l = record {
  counts : ForSome (g.S.Store.files l.initial.store) (λ files. Counts l.table (parts l.metadata) l.entries files l.count l.rest);
  files : g.S.Store.files l.store ≡ g.S.Store.files l.initial.store;
  faults : g.S.Store.faults l.store ≡ g.S.Store.faults l.initial.store;
}

abbrev pub decreases-loop-rest : goal.decreases-loop-rest
decreases-loop-rest g l = length l.rest
