use Rattle.std.proofs.Common.{◌≡◌, ◌≤◌, ◌+◌, [], length, option_map, is_some}
use Rattle.std.specs.List.{AllByRecursion}
use Rattle.std.specs.Option.{ForSome}
use Rattle.store_core.specs.Files.{KeepsFiles}
use Rattle.table_names.specs.FileNames.{NoneFrom}
use Rattle.commit_builder.specs.Commits.{files_from, rows_from, IsSpelled}
use Rattle.commit_builder.specs.Puts.{PutsManifests}
use Rattle.commit_builder.proofs.writing.put_manifests.Given as goal

abbrev pub invariant-loop-rest : goal.invariant-loop-rest
invariant-loop-rest g l = record {
  free : ForSome (g.S.Store.files l.store) (NoneFrom l.head.table l.names.run l.names.session l.names.next);
  spelled : AllByRecursion (IsSpelled l.head l.schema) l.rest → AllByRecursion (IsSpelled l.head l.schema) l.drafts;
  rows : rows_from l.head l.schema l.numbers l.names l.rows.items l.rest ≡ rows_from l.head l.schema l.numbers l.initial.names [] l.drafts;
  files : option_map (λ files. files_from l.head l.schema l.numbers l.names files l.rest)
      (g.S.Store.files l.store) ≡ option_map (λ files. files_from l.head l.schema l.numbers l.initial.names files l.drafts)
      (g.S.Store.files l.initial.store);
  run : l.names.run ≡ l.initial.names.run;
  session : l.names.session ≡ l.initial.names.session;
  raised : l.names.next + length l.rest ≡ l.initial.names.next + length l.drafts;
  above : l.initial.names.next ≤ l.names.next;
  others : PutsManifests l.head.table l.initial.names (g.S.Store.files l.initial.store) (g.S.Store.files l.store);
  told : is_some (g.S.Store.files l.store) ≡ is_some (g.S.Store.files l.initial.store);
  kept : KeepsFiles (g.S.Store.files l.initial.store) (g.S.Store.files l.store);
  reads : g.S.Store.reads l.store ≡ g.S.Store.reads l.initial.store;
  faults : g.S.Store.faults l.store ≡ g.S.Store.faults l.initial.store;
}

abbrev pub decreases-loop-rest : goal.decreases-loop-rest
decreases-loop-rest g l = length l.rest
