use Rattle.std.proofs.Common.{◌≡◌, ◌≤◌, is_some}
use Rattle.std.specs.Option.{ForSome}
use Rattle.store_core.specs.Files.{KeepsFiles}
use Rattle.table_names.specs.FileNames.{NoneFrom}
use Rattle.commit_builder.specs.NextVersion.{AreNames}
use Rattle.session_steps.specs.Steps.{HasShape, LeavesOthers}
use Rattle.schedule_runner.proofs.Outcomes.{RunsFrom}
use Rattle.schedule_runner.proofs.finishing.finish.Given as goal

abbrev pub invariant-loop : goal.invariant-loop
invariant-loop g l = record {
  running : RunsFrom l.table l.schema l.sources l.statements l.initial.session.place (g.S.Store.files l.initial.store)
      (g.S.Store.files l.store) l.session l.steps.items;
  shape : HasShape l.session;
  named : AreNames l.session.names;
  session : (l.session.names.run ≡ l.initial.session.names.run) × (l.session.names.session ≡ l.initial.session.names.session);
  raised : l.initial.session.names.next ≤ l.session.names.next;
  free : ForSome (g.S.Store.files l.store) (NoneFrom l.table l.session.names.run l.session.names.session l.session.names.next);
  told : is_some (g.S.Store.files l.store) ≡ is_some (g.S.Store.files l.initial.store);
  others : LeavesOthers l.table l.initial.session.names (g.S.Store.files l.initial.store) (g.S.Store.files l.store);
  kept : KeepsFiles (g.S.Store.files l.initial.store) (g.S.Store.files l.store);
  later : g.S.Store.faults l.initial.store ≤ g.S.Store.faults l.store;
}
