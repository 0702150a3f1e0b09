use Rattle.std.proofs.Common.{Option, [], None, Some, arith, subst, ◌∙◌}
use Rattle.session_steps.specs.declared.fault.RunFault.{RunFault}
use Rattle.schedule_runner.specs.Outcome.{IsOutcome, first_place}
use Rattle.schedule_runner.specs.Scripts.{name_in, statements_in}
use Rattle.dml_program.proofs.ScriptReports.{adds_told, open_rows, ran}
use Rattle.dml_program.proofs.script_run.run_begun.Goals as goal

pub run_script-steps-requires-clause-open : goal.run_script-steps-requires-clause-open
run_script-steps-requires-clause-open g c files told = (c.args.begun.now.version, c.requires.open files told)

pub returns-in-Some-clause-runs : goal.returns-in-Some-clause-runs
returns-in-Some-clause-runs g c files told =
    let was = c.requires.open files told in
    let out = c.run_script-steps.ensures.runs files told c.args.begun.now.version was in
    let adds = c.run_script-steps.ensures.adds files told in (
      out.0,
      out.1,
      ran c.args.table.now c.args.begun.now files out.0 was c.run_script-steps.result.steps c.as_slice.result.now c.run_script-steps.result.ended
          (Some c.in-Some.fault) (g.S.Store.faults c.args.store.now) (g.S.Store.faults c.run_script-steps.new.store)
          (g.S.Store.faults c.run_script-steps.new.store) c.tell_stop.result (g.K.Sink.written c.args.out.now) (g.K.Sink.written c.tell_stop.new.out)
          (g.K.Sink.faults c.args.out.now) (g.K.Sink.faults c.tell_stop.new.out) (omega arith) c.in-Some.is c.as_slice.ensures out.2
          (c.tell_stop.ensures.report out.0)
          (adds_told c.args.table.now (name_in c.args.begun.now.script) (g.S.Store.files c.run_script-steps.new.store) files out.0 adds.0 out.1 adds.1 adds.2),
    )

pub returns-clause-runs : goal.returns-clause-runs
returns-clause-runs g c files told =
    let was = c.requires.open files told in
    let out = c.run_script-steps.ensures.runs files told c.args.begun.now.version was in
    let adds = c.run_script-steps.ensures.adds files told in
    let ended = subst (λ (e : Option RunFault). IsOutcome c.args.table.now c.args.begun.now.schema []
    (statements_in c.args.begun.now.script) files c.args.begun.now.version (first_place 0) was out.0 c.run_script-steps.result.steps
    (g.S.Store.faults c.args.store.now) (g.S.Store.faults c.run_script-steps.new.store) e) c.in-None.is out.2 in (
      out.0,
      c.tell_end.ensures.files ∙ out.1,
      ran c.args.table.now c.args.begun.now files out.0 was c.run_script-steps.result.steps c.as_slice-in-None.result.now c.run_script-steps.result.ended None
          (g.S.Store.faults c.args.store.now) (g.S.Store.faults c.run_script-steps.new.store)
          (g.S.Store.faults c.tell_end.new.store) c.tell_end.result (g.K.Sink.written c.args.out.now) (g.K.Sink.written c.tell_end.new.out)
          (g.K.Sink.faults c.args.out.now) (g.K.Sink.faults c.tell_end.new.out) c.tell_end.ensures.later c.in-None.is c.as_slice-in-None.ensures out.2
          (c.tell_end.ensures.report out.0 out.1 ended.still.rows (open_rows c.args.table.now c.args.begun.now.schema out.0 ended.last ended.still))
          (adds_told c.args.table.now (name_in c.args.begun.now.script) (g.S.Store.files c.run_script-steps.new.store) files out.0 adds.0 out.1 adds.1 adds.2),
    )
