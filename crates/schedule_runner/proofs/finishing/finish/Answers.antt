use Rattle.std.proofs.Common.{Some, None, arith, refl, subst, sym, ◌∙◌}
use Rattle.std.proofs.lemmas.Option.{slice_get_past}
use Rattle.session_machine.specs.declared.place.Phase.{Phase}
use Rattle.session_steps.specs.declared.fault.RunFault.TheVariants as run
use Rattle.session_steps.specs.Steps.{InShape}
use Rattle.schedule_runner.proofs.Outcomes.{RunsFrom, as_run, finished, full, goes, others_then, outcome_then, runs_now, started, stopped, there}
use Rattle.schedule_runner.proofs.finishing.finish.Goals as goal

pub loop-init : goal.loop-init
loop-init g c = record {
  running =
      subst (RunsFrom c.args.table.now c.args.schema.now c.args.sources.now c.args.statements.now c.args.session.now.place (g.S.Store.files c.args.store.now) (g.S.Store.files c.args.store.now) c.args.session.now) (sym c.new-steps.ensures.items)
      (started c.args.table.now c.args.schema.now c.args.sources.now c.args.statements.now c.args.session.now.place (g.S.Store.files c.args.store.now) c.args.session.now refl c.requires.phase);
  shape = subst (λ (p : Phase). InShape c.args.session.now p) (sym c.requires.phase) tt;
  named = c.requires.named;
  session = (refl, refl);
  raised = omega arith;
  free = c.requires.free;
  told = refl;
  others = λ name no_data no_metadata no_version. refl;
  kept = λ name bytes held. held;
  later = omega arith;
}

pub returns-then-session-statements-clause-runs : goal.returns-then-session-statements-clause-runs
returns-then-session-statements-clause-runs g c =
    as_run c.args.table.now c.args.schema.now c.args.sources.now c.args.statements.now c.args.session.now.place (g.S.Store.files c.args.store.now)
    (g.S.Store.files c.loop.store) c.loop.steps.items c.run_of.result.steps (g.S.Store.faults c.args.store.now)
    (g.S.Store.faults c.loop.store) None c.run_of.result.ended c.run_of.ensures.steps c.run_of.ensures.ended
    (finished c.args.table.now c.args.schema.now c.args.sources.now c.args.statements.now c.args.session.now.place
    (g.S.Store.files c.args.store.now) c.requires.open (g.S.Store.files c.loop.store) c.loop.session c.loop.steps.items c.loop.invariant.running
    (g.S.Store.faults c.args.store.now) (g.S.Store.faults c.loop.store)
    (slice_get_past c.args.statements.now c.loop.session.place.at (omega (arith, c.if-session-statements.true))))

pub go_on-requires-clause-at_hand : goal.go_on-requires-clause-at_hand
go_on-requires-clause-at_hand g c = there c.args.statements.now c.loop.session.place.at (omega (arith, c.if-session-statements.false))

pub go_on-requires-clause-running : goal.go_on-requires-clause-running
go_on-requires-clause-running g c = runs_now c.args.table.now c.args.schema.now c.args.sources.now c.args.statements.now c.args.session.now.place
    (g.S.Store.files c.args.store.now) c.requires.open
    (g.S.Store.files c.loop.store) c.loop.session c.loop.steps.items c.loop.invariant.running c.loop.invariant.told

pub returns-in-Err-clause-runs : goal.returns-in-Err-clause-runs
returns-in-Err-clause-runs g c =
    as_run c.args.table.now c.args.schema.now c.args.sources.now c.args.statements.now c.args.session.now.place (g.S.Store.files c.args.store.now)
    (g.S.Store.files c.go_on.new.store) c.go_on.new.steps.items c.run_of-in-Err.result.steps (g.S.Store.faults c.args.store.now)
    (g.S.Store.faults c.go_on.new.store)
    (Some c.in-Err.fault) c.run_of-in-Err.result.ended c.run_of-in-Err.ensures.steps c.run_of-in-Err.ensures.ended
    (outcome_then c.args.table.now c.args.schema.now c.args.sources.now c.args.statements.now c.args.session.now.place
    (g.S.Store.files c.args.store.now) (g.S.Store.files c.go_on.new.store) c.go_on.new.steps.items (g.S.Store.faults c.args.store.now)
    (g.S.Store.faults c.loop.store) (g.S.Store.faults c.go_on.new.store) (g.S.Store.faults c.go_on.new.store)
    (Some c.in-Err.fault) c.loop.invariant.later (omega arith)
    (stopped c.args.table.now c.args.schema.now c.args.sources.now c.args.statements.now c.args.session.now.place
    (g.S.Store.files c.args.store.now) c.requires.open (g.S.Store.files c.loop.store) c.loop.session c.loop.steps.items c.loop.invariant.running
    (g.S.Store.files c.go_on.new.store) c.requires.statements.main c.go_on.ensures.kept
    (there c.args.statements.now c.loop.session.place.at (omega (arith, c.if-session-statements.false))) c.go_on.new.steps.items
    (g.S.Store.faults c.loop.store) (g.S.Store.faults c.go_on.new.store) c.in-Err.fault c.in-Err.ensures.ends c.in-Err.ensures.faulted
    (λ number statement is. c.in-Err.ensures.at_hand number statement cc)))

pub returns-in-Err-clause-others : goal.returns-in-Err-clause-others
returns-in-Err-clause-others g c =
    others_then c.args.table.now c.args.session.now.names c.loop.session.names (g.S.Store.files c.args.store.now) (g.S.Store.files c.loop.store) (g.S.Store.files c.go_on.new.store) c.loop.invariant.session c.loop.invariant.raised c.loop.invariant.others c.go_on.ensures.others

pub loop-preserved : goal.loop-preserved
loop-preserved g c = record {
  running = goes c.args.table.now c.args.schema.now c.args.sources.now c.args.statements.now c.args.session.now.place
      (g.S.Store.files c.args.store.now) c.requires.open (g.S.Store.files c.loop.store) c.loop.session c.loop.steps.items c.loop.invariant.running
      (g.S.Store.files c.go_on.new.store) c.go_on.new.session c.go_on.new.steps.items c.in-Ok.ensures.goes;
  shape = c.in-Ok.ensures.shape;
  named = c.go_on.ensures.named;
  session = (c.go_on.ensures.session.0 ∙ c.loop.invariant.session.0, c.go_on.ensures.session.1 ∙ c.loop.invariant.session.1);
  raised = omega (arith, c.loop.invariant.raised, c.go_on.ensures.raised);
  free = c.go_on.ensures.free;
  told = c.go_on.ensures.told ∙ c.loop.invariant.told;
  others =
      others_then c.args.table.now c.args.session.now.names c.loop.session.names (g.S.Store.files c.args.store.now) (g.S.Store.files c.loop.store) (g.S.Store.files c.go_on.new.store) c.loop.invariant.session c.loop.invariant.raised c.loop.invariant.others c.go_on.ensures.others;
  kept = λ name bytes held. c.go_on.ensures.kept name bytes (c.loop.invariant.kept name bytes held);
  later = omega (arith, c.loop.invariant.later, c.go_on.ensures.later);
}

pub returns-clause-runs : goal.returns-clause-runs
returns-clause-runs g c =
    as_run c.args.table.now c.args.schema.now c.args.sources.now c.args.statements.now c.args.session.now.place (g.S.Store.files c.args.store.now)
    (g.S.Store.files c.loop.store) c.loop.steps.items c.run_of-2.result.steps (g.S.Store.faults c.args.store.now) (g.S.Store.faults c.loop.store)
    (Some run.Memory) c.run_of-2.result.ended c.run_of-2.ensures.steps c.run_of-2.ensures.ended
    (full c.args.table.now c.args.schema.now c.args.sources.now c.args.statements.now c.args.session.now.place
    (g.S.Store.files c.args.store.now) c.requires.open (g.S.Store.files c.loop.store) c.loop.session c.loop.steps.items c.loop.invariant.running
    (g.S.Store.faults c.args.store.now) (g.S.Store.faults c.loop.store))
