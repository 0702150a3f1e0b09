use Rattle.std.proofs.Common.{◌≡◌, ◌+◌, ◌≤◌, length}
use Rattle.std.specs.Option.{ForSome}
use Rattle.table_metadata.specs.Metadata.{parts}
use Rattle.table_state.specs.Gathering.{gathered_at, nothing, seen}
use Rattle.table_state.proofs.gathered.gather.Given as goal

-- the manifests that are left, behind what is gathered, give the same
abbrev pub invariant-loop-rest : goal.invariant-loop-rest
invariant-loop-rest g l = record {
  same : ForSome (g.S.Store.files l.initial.store) (λ files. gathered_at l.table (parts l.metadata)
      (seen l.gathered) l.rest files ≡ gathered_at l.table (parts l.metadata) nothing l.rows files);
  files : g.S.Store.files l.store ≡ g.S.Store.files l.initial.store;
  faults : g.S.Store.faults l.store ≡ g.S.Store.faults l.initial.store;
  reads : g.S.Store.reads l.store + length l.rest ≤ g.S.Store.reads l.initial.store + length l.rows;
}

abbrev pub decreases-loop-rest : goal.decreases-loop-rest
decreases-loop-rest g l = length l.rest
