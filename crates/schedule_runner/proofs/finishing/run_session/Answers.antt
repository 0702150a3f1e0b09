use Rattle.std.proofs.Common.{subst}
use Rattle.table_names.specs.declared.names.Names.{Names}
use Rattle.session_machine.specs.declared.place.Place.{Place}
use Rattle.session_steps.specs.Steps.{LeavesOthers}
use Rattle.schedule_runner.proofs.Outcomes.{HasOutcome}
use Rattle.schedule_runner.proofs.finishing.run_session.Goals as goal

pub returns-clause-runs : goal.returns-clause-runs
returns-clause-runs g c =
    subst (λ (place : Place). HasOutcome c.args.table.now c.args.schema.now c.args.sources.now c.args.statements.now place
    (g.S.Store.files c.args.store.now) (g.S.Store.files c.finish-run.new.store) c.finish-run.result.steps (g.S.Store.faults c.args.store.now)
    (g.S.Store.faults c.finish-run.new.store) c.finish-run.result.ended) c.new-session.ensures.place c.finish-run.ensures.runs

pub returns-clause-others : goal.returns-clause-others
returns-clause-others g c = subst (λ (names : Names). LeavesOthers c.args.table.now names (g.S.Store.files c.args.store.now) (g.S.Store.files c.finish-run.new.store)) c.new-session.ensures.names c.finish-run.ensures.others
