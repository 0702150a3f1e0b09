use Rattle.std.proofs.Common.{◌≡◌, ℕ, List, [], Option, Some, ap, inr, refl, sym, subst, ◌∙◌}
use Rattle.store_core.specs.Files.{Files, bytes_of}
use Rattle.dml_program.specs.Answers.{LeavesAnswered, Writes, refused, report_lines}
use Rattle.dml_program.specs.Beginning.{begun_of}
use Rattle.dml_program.specs.ScriptRuns.{IsRan}
use Rattle.dml_program.proofs.Reports.{fault_report}
use Rattle.dml_program.proofs.ScriptReports.{began, each_refusal, none_refused, run_input, stops_carry, stops_complete, stops_leave, told_is_no_end, unbegun_is_fault, unbegun_runs}
use Rattle.dml_program.proofs.run.run.Goals as goal

-- ---- the run began

pub returns-in-Ok-clause-answer : goal.returns-in-Ok-clause-answer
returns-in-Ok-clause-answer g c files told inputs given = none_refused (begun_of c.args.table.now c.args.script.now files inputs) c.in-Ok.begun _ (c.in-Ok.ensures.found files told inputs given)

pub returns-in-Ok-clause-complete : goal.returns-in-Ok-clause-complete
returns-in-Ok-clause-complete g c store_kept inputs_kept out_kept files told inputs given = none_refused (begun_of c.args.table.now c.args.script.now files inputs) c.in-Ok.begun _ (c.in-Ok.ensures.found files told inputs given)

pub returns-in-Ok-clause-leaves : goal.returns-in-Ok-clause-leaves
returns-in-Ok-clause-leaves g c files told inputs given = none_refused (begun_of c.args.table.now c.args.script.now files inputs) c.in-Ok.begun _ (c.in-Ok.ensures.found files told inputs given)

pub returns-in-Ok-clause-report : goal.returns-in-Ok-clause-report
returns-in-Ok-clause-report g c files told inputs given = none_refused (begun_of c.args.table.now c.args.script.now files inputs) c.in-Ok.begun _ (c.in-Ok.ensures.found files told inputs given)

pub returns-in-Ok-clause-input : goal.returns-in-Ok-clause-input
returns-in-Ok-clause-input g c = run_input c.run_begun.result _ _ _ c.run_begun.ensures.kind

pub returns-in-Ok-clause-runs : goal.returns-in-Ok-clause-runs
returns-in-Ok-clause-runs g c files told inputs given =
    began (begun_of c.args.table.now c.args.script.now files inputs) c.in-Ok.begun _ (c.in-Ok.ensures.found files told inputs given)
    (inr (subst (λ (count : ℕ). (new : Files) × (g.S.Store.files c.run_begun.new.store ≡ Some new)
    × IsRan c.args.table.now c.in-Ok.begun files new count (g.S.Store.faults c.run_begun.new.store) c.run_begun.result
    (g.K.Sink.written c.args.out.now) (g.K.Sink.written c.run_begun.new.out) (g.K.Sink.faults c.args.out.now)
    (g.K.Sink.faults c.run_begun.new.out)) c.in-Ok.ensures.quiet.0 (c.run_begun.ensures.runs files (c.begin.ensures.files ∙ told))))

pub returns-in-Ok-clause-fault_lines : goal.returns-in-Ok-clause-fault_lines
returns-in-Ok-clause-fault_lines g c fault =
    let told = c.run_begun.ensures.fault_lines fault in
    (told.0, (λ nothing. absurd nothing), told.1)

-- ---- it could not

pub returns-in-Err-clause-answer : goal.returns-in-Err-clause-answer
returns-in-Err-clause-answer g c files told inputs given = stops_carry _ (begun_of c.args.table.now c.args.script.now files inputs) c.in-Err.status c.write_fault.result (c.in-Err.ensures.refused files told inputs given) c.write_fault.ensures.status

pub returns-in-Err-clause-complete : goal.returns-in-Err-clause-complete
returns-in-Err-clause-complete g c store_kept inputs_kept out_kept files told inputs given =
    stops_complete _ (begun_of c.args.table.now c.args.script.now files inputs) c.in-Err.status c.write_fault.result (g.S.Store.faults c.args.store.now) (g.S.Store.faults c.begin.new.store) (g.S.Store.unsettled c.begin.new.store)
    (c.in-Err.ensures.refused files told inputs given) c.in-Err.ensures.store c.in-Err.ensures.kind inputs_kept store_kept c.write_fault.ensures.status

pub returns-in-Err-clause-leaves : goal.returns-in-Err-clause-leaves
returns-in-Err-clause-leaves g c files told inputs given =
    each_refusal (begun_of c.args.table.now c.args.script.now files inputs)
    (λ reason. LeavesAnswered (refused reason) c.write_fault.result files (g.S.Store.files c.begin.new.store))
    (λ reason. stops_leave reason c.write_fault.result files (g.S.Store.files c.begin.new.store) (c.begin.ensures.files ∙ told))

pub returns-in-Err-clause-report : goal.returns-in-Err-clause-report
returns-in-Err-clause-report g c files told inputs given =
    each_refusal (begun_of c.args.table.now c.args.script.now files inputs) (λ reason. Writes (report_lines (refused reason) c.write_fault.result) (g.K.Sink.written c.args.out.now) (g.K.Sink.written c.write_fault.new.out) (g.K.Sink.faults c.args.out.now) (g.K.Sink.faults c.write_fault.new.out))
    (λ reason.
    subst (λ (lines : List ℕ). Writes lines (g.K.Sink.written c.args.out.now) (g.K.Sink.written c.write_fault.new.out)
    (g.K.Sink.faults c.args.out.now) (g.K.Sink.faults c.write_fault.new.out))
    (sym (fault_report (refused reason) c.in-Err.status c.write_fault.result
    (unbegun_is_fault c.in-Err.status c.in-Err.ensures.kind) c.write_fault.ensures.status)) c.write_fault.ensures.report)

pub returns-in-Err-clause-fault_lines : goal.returns-in-Err-clause-fault_lines
returns-in-Err-clause-fault_lines g c fault = ([], (λ nothing. refl), c.write_fault.ensures.report)

pub returns-in-Err-clause-runs : goal.returns-in-Err-clause-runs
returns-in-Err-clause-runs g c files told inputs given =
    unbegun_runs files (g.S.Store.faults c.args.store.now) (g.S.Store.faults c.begin.new.store) (g.K.Sink.written c.args.out.now)
    (g.K.Sink.written c.write_fault.new.out) (g.K.Sink.faults c.args.out.now) (g.K.Sink.faults c.write_fault.new.out)
    (g.S.Store.files c.begin.new.store) (g.I.Inputs.faults c.args.inputs.now)
    (g.I.Inputs.faults c.begin.new.inputs) c.args.table.now c.args.script.now inputs
    (c.begin.ensures.files ∙ told) c.in-Err.status c.write_fault.result
    (c.in-Err.ensures.refused files told inputs given) c.in-Err.ensures.kind c.write_fault.ensures.status c.write_fault.ensures.report

-- ---- the table and its files

pub run_begun-requires-clause-open : goal.run_begun-requires-clause-open
run_begun-requires-clause-open g c files told = c.in-Ok.ensures.open files (sym c.begin.ensures.files ∙ told)

pub returns-in-Ok-clause-kept : goal.returns-in-Ok-clause-kept
returns-in-Ok-clause-kept g c name bytes there = c.run_begun.ensures.kept name bytes (ap (λ (files : Option Files). bytes_of files name) c.begin.ensures.files ∙ there)

pub returns-in-Err-clause-quiet : goal.returns-in-Err-clause-quiet
returns-in-Err-clause-quiet g c done = absurd (told_is_no_end c.in-Err.status c.write_fault.result (unbegun_is_fault c.in-Err.status c.in-Err.ensures.kind) c.write_fault.ensures.status done)
