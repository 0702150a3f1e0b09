use Rattle.std.proofs.Common.{◌≡◌, ◌<◌, arith, true, length, List, [], Some, inl, refl, sym, subst, ◌∙◌}
use Rattle.std.specs.List.{AllByRecursion}
use Rattle.sql_statements.specs.declared.statement.Statement.{Statement}
use Rattle.sql_statements.specs.Tables.{is_dml}
use Rattle.table_names.specs.Sessions.{HasNoSlash}
use Rattle.std.specs.Str.{IsUtf8}
use Rattle.session_steps.specs.Steps.{AreWorkable}
use Rattle.schedule_runner.specs.Outcome.{first_place}
use Rattle.schedule_runner.specs.Scripts.{name_in, statements_in}
use Rattle.schedule_runner.proofs.AddedNames.{adds_by}
use Rattle.schedule_runner.proofs.Outcomes.{HasOutcome, as_run, outcome_then}
use Rattle.schedule_runner.proofs.ReadScripts.{are_changes, are_workable, at_most, has_no_slash, is_text}
use Rattle.schedule_runner.proofs.Unbegun.{by_fault}
use Rattle.schedule_runner.proofs.running.run_script.Goals as goal

pub first_names-requires-clause-text : goal.first_names-requires-clause-text
first_names-requires-clause-text g c = subst IsUtf8 (sym c.name_in.ensures) (is_text c.args.schema.now c.args.script.now c.requires.read)

pub first_names-requires-clause-slash : goal.first_names-requires-clause-slash
first_names-requires-clause-slash g c = subst HasNoSlash (sym c.name_in.ensures) (has_no_slash c.args.schema.now c.args.script.now c.requires.read)

pub run_session-requires-clause-statements : goal.run_session-requires-clause-statements
run_session-requires-clause-statements g c = subst (AreWorkable c.args.schema.now []) (sym c.statements_in-statements.ensures) (are_workable c.args.schema.now c.args.script.now c.requires.read)

pub run_session-requires-clause-changes : goal.run_session-requires-clause-changes
run_session-requires-clause-changes g c = subst (AllByRecursion (λ (s : Statement). is_dml s ≡ true)) (sym c.statements_in-statements.ensures) (are_changes c.args.schema.now c.args.script.now c.requires.read)

pub returns-in-Err-clause-runs : goal.returns-in-Err-clause-runs
returns-in-Err-clause-runs g c =
    as_run c.args.table.now c.args.schema.now [] (statements_in c.args.script.now) (first_place 0) (g.S.Store.files c.args.store.now)
    (g.S.Store.files c.first_names.new.store) [] c.unbegun.result.steps (g.S.Store.faults c.args.store.now)
    (g.S.Store.faults c.first_names.new.store) (Some c.in-Err.fault) c.unbegun.result.ended c.unbegun.ensures.steps c.unbegun.ensures.ended
    (by_fault c.args.table.now c.args.schema.now [] (statements_in c.args.script.now) 0 (g.S.Store.files c.args.store.now)
    (g.S.Store.files c.first_names.new.store) c.first_names.ensures.files (g.S.Store.faults c.args.store.now)
    (g.S.Store.faults c.first_names.new.store) c.in-Err.fault c.in-Err.ensures.kind)

pub returns-in-Err-clause-adds : goal.returns-in-Err-clause-adds
returns-in-Err-clause-adds g c = λ old told. (old, c.first_names.ensures.files ∙ told, inl refl)

pub returns-clause-adds : goal.returns-clause-adds
returns-clause-adds g c = λ old told.
    adds_by c.args.table.now (name_in c.args.script.now) c.in-Ok.names old (c.in-Ok.ensures.first.0 ∙ c.name_in.ensures) c.in-Ok.ensures.first.1
    (c.in-Ok.ensures.fresh old told) (g.S.Store.files c.first_names.new.store) (g.S.Store.files c.run_session.new.store)
    (c.first_names.ensures.files ∙ told) c.run_session.ensures.told c.run_session.ensures.others

pub returns-clause-runs : goal.returns-clause-runs
returns-clause-runs g c =
    outcome_then c.args.table.now c.args.schema.now [] (statements_in c.args.script.now) (first_place 0) (g.S.Store.files c.args.store.now)
    (g.S.Store.files c.run_session.new.store) c.run_session.result.steps (g.S.Store.faults c.args.store.now)
    (g.S.Store.faults c.first_names.new.store) (g.S.Store.faults c.run_session.new.store)
    (g.S.Store.faults c.run_session.new.store) c.run_session.result.ended c.first_names.ensures.later (omega arith)
    (subst (λ (xs : List Statement). HasOutcome c.args.table.now c.args.schema.now [] xs (first_place 0) (g.S.Store.files c.args.store.now)
    (g.S.Store.files c.run_session.new.store) c.run_session.result.steps (g.S.Store.faults c.first_names.new.store)
    (g.S.Store.faults c.run_session.new.store) c.run_session.result.ended) c.statements_in-statements.ensures
    (λ files told. c.run_session.ensures.runs files (c.first_names.ensures.files ∙ told)))

pub returns-clause-within : goal.returns-clause-within
returns-clause-within g c = λ session statement is. at_most c.args.schema.now c.args.script.now c.requires.read statement (subst (λ (xs : List Statement). statement < length xs) c.statements_in-statements.ensures (c.run_session.ensures.within session statement is))
