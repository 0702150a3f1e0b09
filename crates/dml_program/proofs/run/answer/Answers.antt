use Rattle.std.proofs.Common.{ℕ, List, [], Some, refl, sym, subst}
use Rattle.command_line.specs.Words.{wanted}
use Rattle.dml_program.specs.Answers.{Prints, Writes, report_lines}
use Rattle.dml_program.proofs.Reports.{carried_on, completes, done_carried, done_completes, done_leaves, fault_report, left_by, printed}
use Rattle.dml_program.proofs.ScriptReports.{ended_is_done, none_run, settled_by, told_is_no_end, written_is_no_fault}
use Rattle.dml_program.proofs.ToldAnswers.{told_anyway, told_map}
use Rattle.dml_program.proofs.run.answer.Goals as goal

-- ---- the lines were written, or the output failed

pub returns-in-Ok-clause-answer : goal.returns-in-Ok-clause-answer
returns-in-Ok-clause-answer g c =
    told_map (Some (wanted c.args.command)) (g.S.Store.files c.args.store.now) (g.I.Inputs.contents c.args.inputs.now) (g.C.Clock.time c.args.clock.now) _ _
    (λ files answer prints. done_carried answer c.in-Ok.lines.items c.write_lines.result prints c.write_lines.ensures.status _)
    c.in-Ok.ensures.found

pub returns-in-Ok-clause-complete : goal.returns-in-Ok-clause-complete
returns-in-Ok-clause-complete g c store_kept inputs_kept out_kept =
    told_map (Some (wanted c.args.command)) (g.S.Store.files c.args.store.now) (g.I.Inputs.contents c.args.inputs.now) (g.C.Clock.time c.args.clock.now) _ _
    (λ files answer prints. done_completes answer c.in-Ok.lines.items c.write_lines.result prints c.write_lines.ensures.status _ c.write_lines.ensures.output_failed out_kept)
    c.in-Ok.ensures.found

pub returns-in-Ok-clause-leaves : goal.returns-in-Ok-clause-leaves
returns-in-Ok-clause-leaves g c =
    told_map (Some (wanted c.args.command)) (g.S.Store.files c.args.store.now) (g.I.Inputs.contents c.args.inputs.now) (g.C.Clock.time c.args.clock.now) _ _
    (λ files answer left. done_leaves answer c.write_lines.result files (g.S.Store.files c.carry_out.new.store) left c.write_lines.ensures.status)
    c.in-Ok.ensures.leaves

pub returns-in-Ok-clause-report : goal.returns-in-Ok-clause-report
returns-in-Ok-clause-report g c =
    told_map (Some (wanted c.args.command)) (g.S.Store.files c.args.store.now) (g.I.Inputs.contents c.args.inputs.now) (g.C.Clock.time c.args.clock.now) _ _
    (λ files answer prints.
    subst (λ (lines : List ℕ). Writes lines (g.K.Sink.written c.args.out.now) (g.K.Sink.written c.write_lines.new.out) (g.K.Sink.faults c.args.out.now) (g.K.Sink.faults c.write_lines.new.out))
    (sym (printed answer c.as_slice.result.now c.write_lines.result (subst (Prints answer) (sym c.as_slice.ensures.value) prints) c.write_lines.ensures.status))
    c.write_lines.ensures.report)
    c.in-Ok.ensures.found

-- ---- the call stopped

pub returns-in-Err-clause-answer : goal.returns-in-Err-clause-answer
returns-in-Err-clause-answer g c =
    told_map (Some (wanted c.args.command)) (g.S.Store.files c.args.store.now) (g.I.Inputs.contents c.args.inputs.now) (g.C.Clock.time c.args.clock.now) _ _
    (λ files answer carried. carried_on _ answer c.in-Err.status c.write_fault.result carried c.write_fault.ensures.status)
    c.in-Err.ensures.refused

pub returns-in-Err-clause-complete : goal.returns-in-Err-clause-complete
returns-in-Err-clause-complete g c store_kept inputs_kept out_kept =
    told_map (Some (wanted c.args.command)) (g.S.Store.files c.args.store.now) (g.I.Inputs.contents c.args.inputs.now) (g.C.Clock.time c.args.clock.now) _ _
    (λ files answer carried. completes _ answer c.in-Err.status c.write_fault.result (g.S.Store.faults c.args.store.now)
    (g.S.Store.faults c.carry_out.new.store)
    (g.S.Store.unsettled c.carry_out.new.store) c.in-Err.ensures.kind carried c.in-Err.ensures.store inputs_kept store_kept c.write_fault.ensures.status)
    c.in-Err.ensures.refused

pub returns-in-Err-clause-leaves : goal.returns-in-Err-clause-leaves
returns-in-Err-clause-leaves g c =
    told_map (Some (wanted c.args.command)) (g.S.Store.files c.args.store.now) (g.I.Inputs.contents c.args.inputs.now) (g.C.Clock.time c.args.clock.now) _ _
    (λ files answer left. left_by answer c.in-Err.status c.write_fault.result files (g.S.Store.files c.carry_out.new.store) c.in-Err.ensures.kind left c.write_fault.ensures.status)
    c.in-Err.ensures.leaves

pub returns-in-Err-clause-report : goal.returns-in-Err-clause-report
returns-in-Err-clause-report g c =
    told_anyway (Some (wanted c.args.command)) (g.S.Store.files c.args.store.now) (g.I.Inputs.contents c.args.inputs.now) (g.C.Clock.time c.args.clock.now)
    (λ files answer. Writes (report_lines answer c.write_fault.result) (g.K.Sink.written c.args.out.now) (g.K.Sink.written c.write_fault.new.out) (g.K.Sink.faults c.args.out.now) (g.K.Sink.faults c.write_fault.new.out))
    (λ files told answer.
    subst (λ (lines : List ℕ). Writes lines (g.K.Sink.written c.args.out.now) (g.K.Sink.written c.write_fault.new.out) (g.K.Sink.faults c.args.out.now) (g.K.Sink.faults c.write_fault.new.out))
    (sym (fault_report answer c.in-Err.status c.write_fault.result c.in-Err.ensures.kind c.write_fault.ensures.status))
    c.write_fault.ensures.report)

-- ---- it runs no script

pub returns-in-Ok-clause-quiet : goal.returns-in-Ok-clause-quiet
returns-in-Ok-clause-quiet g c done = (settled_by (Some (wanted c.args.command)) _ _ _ c.in-Ok.ensures.quiet.0, c.in-Ok.ensures.quiet.1, c.write_lines.ensures.quiet (ended_is_done c.write_lines.result c.write_lines.ensures.status done))

pub returns-in-Err-clause-quiet : goal.returns-in-Err-clause-quiet
returns-in-Err-clause-quiet g c done = absurd (told_is_no_end c.in-Err.status c.write_fault.result c.in-Err.ensures.kind c.write_fault.ensures.status done)

pub returns-in-Ok-clause-fault_lines : goal.returns-in-Ok-clause-fault_lines
returns-in-Ok-clause-fault_lines g c fault = absurd (written_is_no_fault c.write_lines.result c.write_lines.ensures.status fault)

pub returns-in-Err-clause-fault_lines : goal.returns-in-Err-clause-fault_lines
returns-in-Err-clause-fault_lines g c fault = ([], (λ nothing. refl), c.write_fault.ensures.report)

pub returns-in-Ok-clause-runs : goal.returns-in-Ok-clause-runs
returns-in-Ok-clause-runs g c = none_run (Some (wanted c.args.command)) _ _ _ c.requires

pub returns-in-Err-clause-runs : goal.returns-in-Err-clause-runs
returns-in-Err-clause-runs g c = none_run (Some (wanted c.args.command)) _ _ _ c.requires
