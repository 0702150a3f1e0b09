use Rattle.std.proofs.Common.{◌≡◌, ◌⊎◌, inl, ℕ, List, [], ◌++◌, Option, Some, refl, sym, ap, subst, ◌∙◌}
use Rattle.plain_types.specs.Causes.{Rose}
use Rattle.store_core.specs.Files.{Files}
use Rattle.command_line.specs.declared.words.Command.{Command}
use Rattle.command_line.specs.Words.{Wanted, command_of, texts, wanted}
use Rattle.dml_program.specs.Answers.{Carries, LeavesAnswered, OnlyReads, RunsNothing, ToldOf, Writes, refused, report_lines, status_of}
use Rattle.dml_program.specs.Causes.{IsSettledBy}
use Rattle.dml_program.specs.ScriptRuns.{IsRan, IsUnread, OfRun}
use Rattle.dml_program.specs.Statuses.{fault_lines}
use Rattle.dml_program.specs.declared.status.Status.TheVariants as status
use Rattle.dml_program.proofs.Reports.{fault_report}
use Rattle.dml_program.proofs.ScriptReports.{memory_of_run, memory_report, no_run, nothing_writes, stops_leave, swap_either, told_is_no_end, usage_carried}
use Rattle.dml_program.proofs.ToldAnswers.{told_anyway, told_usage}
use Rattle.dml_program.proofs.run.run_program.Goals as goal

-- ---- `run`

pub returns-in-Ok-Run-clause-answer : goal.returns-in-Ok-Run-clause-answer
returns-in-Ok-Run-clause-answer g c =
    let asks = c.in-Ok-Run.ensures.found ∙ ap (λ (m : Command). Some (wanted m)) c.in-Ok-Run.field-0-is in
    subst (λ (d : Option Wanted). ToldOf d (g.S.Store.files c.args.store.now) (g.I.Inputs.contents c.args.inputs.now)
    (g.C.Clock.time c.args.clock.now) (λ files answer. Carries
    (Rose (g.I.Inputs.faults c.args.inputs.now) (g.I.Inputs.faults c.run.new.inputs)) answer c.run.result)) (sym asks) c.run.ensures.answer

pub returns-in-Ok-Run-clause-complete : goal.returns-in-Ok-Run-clause-complete
returns-in-Ok-Run-clause-complete g c store_kept inputs_kept out_kept =
    let asks = c.in-Ok-Run.ensures.found ∙ ap (λ (m : Command). Some (wanted m)) c.in-Ok-Run.field-0-is in
    subst (λ (d : Option Wanted). ToldOf d (g.S.Store.files c.args.store.now) (g.I.Inputs.contents c.args.inputs.now)
    (g.C.Clock.time c.args.clock.now) (λ files answer. (c.run.result ≡ status.Memory) ⊎ (c.run.result ≡ status_of answer))) (sym asks)
    (c.run.ensures.complete store_kept inputs_kept out_kept)

pub returns-in-Ok-Run-clause-quiet : goal.returns-in-Ok-Run-clause-quiet
returns-in-Ok-Run-clause-quiet g c done =
    let asks = c.in-Ok-Run.ensures.found ∙ ap (λ (m : Command). Some (wanted m)) c.in-Ok-Run.field-0-is in
    subst (λ (d : Option Wanted). IsSettledBy d (g.S.Store.faults c.args.store.now) (g.S.Store.faults c.run.new.store)
    (g.S.Store.unsettled c.run.new.store) × ((g.I.Inputs.faults c.run.new.inputs) ≡ (g.I.Inputs.faults c.args.inputs.now))
    × (g.K.Sink.faults c.run.new.out ≡ g.K.Sink.faults c.args.out.now)) (sym asks) (c.run.ensures.quiet done)

pub returns-in-Ok-Run-clause-leaves : goal.returns-in-Ok-Run-clause-leaves
returns-in-Ok-Run-clause-leaves g c =
    let asks = c.in-Ok-Run.ensures.found ∙ ap (λ (m : Command). Some (wanted m)) c.in-Ok-Run.field-0-is in
    subst (λ (d : Option Wanted). ToldOf d (g.S.Store.files c.args.store.now) (g.I.Inputs.contents c.args.inputs.now) (g.C.Clock.time c.args.clock.now) (λ files answer. LeavesAnswered answer c.run.result files (g.S.Store.files c.run.new.store))) (sym asks) c.run.ensures.leaves

pub returns-in-Ok-Run-clause-only_reads : goal.returns-in-Ok-Run-clause-only_reads
returns-in-Ok-Run-clause-only_reads g c =
    let asks = c.in-Ok-Run.ensures.found ∙ ap (λ (m : Command). Some (wanted m)) c.in-Ok-Run.field-0-is in
    subst (λ (d : Option Wanted). OnlyReads d → (g.S.Store.files c.run.new.store) ≡ (g.S.Store.files c.args.store.now)) (sym asks) c.run.ensures.only_reads

pub returns-in-Ok-Run-clause-report : goal.returns-in-Ok-Run-clause-report
returns-in-Ok-Run-clause-report g c =
    let asks = c.in-Ok-Run.ensures.found ∙ ap (λ (m : Command). Some (wanted m)) c.in-Ok-Run.field-0-is in
    subst (λ (d : Option Wanted). ToldOf d (g.S.Store.files c.args.store.now) (g.I.Inputs.contents c.args.inputs.now)
    (g.C.Clock.time c.args.clock.now) (λ files answer. Writes (report_lines answer c.run.result) (g.K.Sink.written c.args.out.now)
    (g.K.Sink.written c.run.new.out) (g.K.Sink.faults c.args.out.now) (g.K.Sink.faults c.run.new.out))) (sym asks) c.run.ensures.report

pub returns-in-Ok-Run-clause-fault_lines : goal.returns-in-Ok-Run-clause-fault_lines
returns-in-Ok-Run-clause-fault_lines g c fault =
    let asks = c.in-Ok-Run.ensures.found ∙ ap (λ (m : Command). Some (wanted m)) c.in-Ok-Run.field-0-is in
    subst (λ (d : Option Wanted). (steps : List ℕ) × (RunsNothing d → steps ≡ [])
    × Writes (steps ++ fault_lines c.run.result) (g.K.Sink.written c.args.out.now) (g.K.Sink.written c.run.new.out)
    (g.K.Sink.faults c.args.out.now) (g.K.Sink.faults c.run.new.out)) (sym asks) (c.run.ensures.fault_lines fault)

pub returns-in-Ok-Run-clause-runs : goal.returns-in-Ok-Run-clause-runs
returns-in-Ok-Run-clause-runs g c =
    let asks = c.in-Ok-Run.ensures.found ∙ ap (λ (m : Command). Some (wanted m)) c.in-Ok-Run.field-0-is in
    subst (λ (d : Option Wanted). OfRun d (g.S.Store.files c.args.store.now) (g.I.Inputs.contents c.args.inputs.now)
    (λ table begun files. IsUnread c.run.result (g.I.Inputs.faults c.args.inputs.now) (g.I.Inputs.faults c.run.new.inputs) files
    (g.S.Store.files c.run.new.store) ⊎ ((new : Files) × ((g.S.Store.files c.run.new.store) ≡ Some new)
    × IsRan table begun files new (g.S.Store.faults c.args.store.now) (g.S.Store.faults c.run.new.store) c.run.result
    (g.K.Sink.written c.args.out.now) (g.K.Sink.written c.run.new.out) (g.K.Sink.faults c.args.out.now) (g.K.Sink.faults c.run.new.out))))
    (sym asks) c.run.ensures.runs

-- ---- another command

pub returns-in-Ok-clause-answer : goal.returns-in-Ok-clause-answer
returns-in-Ok-clause-answer g c =
    let asks = c.in-Ok.ensures.found in
    subst (λ (d : Option Wanted). ToldOf d (g.S.Store.files c.args.store.now) (g.I.Inputs.contents c.args.inputs.now)
    (g.C.Clock.time c.args.clock.now) (λ files answer. Carries
    (Rose (g.I.Inputs.faults c.args.inputs.now) (g.I.Inputs.faults c.answer.new.inputs)) answer c.answer.result))
    (sym asks) c.answer.ensures.answer

pub returns-in-Ok-clause-complete : goal.returns-in-Ok-clause-complete
returns-in-Ok-clause-complete g c store_kept inputs_kept out_kept =
    let asks = c.in-Ok.ensures.found in
    subst (λ (d : Option Wanted). ToldOf d (g.S.Store.files c.args.store.now) (g.I.Inputs.contents c.args.inputs.now)
    (g.C.Clock.time c.args.clock.now) (λ files answer. (c.answer.result ≡ status.Memory) ⊎ (c.answer.result ≡ status_of answer))) (sym asks)
    (c.answer.ensures.complete store_kept inputs_kept out_kept)

pub returns-in-Ok-clause-quiet : goal.returns-in-Ok-clause-quiet
returns-in-Ok-clause-quiet g c done =
    let asks = c.in-Ok.ensures.found in
    subst (λ (d : Option Wanted). IsSettledBy d (g.S.Store.faults c.args.store.now) (g.S.Store.faults c.answer.new.store)
    (g.S.Store.unsettled c.answer.new.store) × ((g.I.Inputs.faults c.answer.new.inputs) ≡ (g.I.Inputs.faults c.args.inputs.now))
    × (g.K.Sink.faults c.answer.new.out ≡ g.K.Sink.faults c.args.out.now)) (sym asks) (c.answer.ensures.quiet done)

pub returns-in-Ok-clause-leaves : goal.returns-in-Ok-clause-leaves
returns-in-Ok-clause-leaves g c =
    let asks = c.in-Ok.ensures.found in
    subst (λ (d : Option Wanted). ToldOf d (g.S.Store.files c.args.store.now) (g.I.Inputs.contents c.args.inputs.now) (g.C.Clock.time c.args.clock.now) (λ files answer. LeavesAnswered answer c.answer.result files (g.S.Store.files c.answer.new.store))) (sym asks) c.answer.ensures.leaves

pub returns-in-Ok-clause-only_reads : goal.returns-in-Ok-clause-only_reads
returns-in-Ok-clause-only_reads g c =
    let asks = c.in-Ok.ensures.found in
    subst (λ (d : Option Wanted). OnlyReads d → (g.S.Store.files c.answer.new.store) ≡ (g.S.Store.files c.args.store.now)) (sym asks) c.answer.ensures.only_reads

pub returns-in-Ok-clause-report : goal.returns-in-Ok-clause-report
returns-in-Ok-clause-report g c =
    let asks = c.in-Ok.ensures.found in
    subst (λ (d : Option Wanted). ToldOf d (g.S.Store.files c.args.store.now) (g.I.Inputs.contents c.args.inputs.now)
    (g.C.Clock.time c.args.clock.now) (λ files answer. Writes (report_lines answer c.answer.result) (g.K.Sink.written c.args.out.now)
    (g.K.Sink.written c.answer.new.out) (g.K.Sink.faults c.args.out.now) (g.K.Sink.faults c.answer.new.out))) (sym asks) c.answer.ensures.report

pub returns-in-Ok-clause-fault_lines : goal.returns-in-Ok-clause-fault_lines
returns-in-Ok-clause-fault_lines g c fault =
    let asks = c.in-Ok.ensures.found in
    subst (λ (d : Option Wanted). (steps : List ℕ) × (RunsNothing d → steps ≡ [])
    × Writes (steps ++ fault_lines c.answer.result) (g.K.Sink.written c.args.out.now) (g.K.Sink.written c.answer.new.out)
    (g.K.Sink.faults c.args.out.now) (g.K.Sink.faults c.answer.new.out)) (sym asks) (c.answer.ensures.fault_lines fault)

pub returns-in-Ok-clause-runs : goal.returns-in-Ok-clause-runs
returns-in-Ok-clause-runs g c =
    let asks = c.in-Ok.ensures.found in
    subst (λ (d : Option Wanted). OfRun d (g.S.Store.files c.args.store.now) (g.I.Inputs.contents c.args.inputs.now)
    (λ table begun files. IsUnread c.answer.result (g.I.Inputs.faults c.args.inputs.now) (g.I.Inputs.faults c.answer.new.inputs) files
    (g.S.Store.files c.answer.new.store) ⊎ ((new : Files) × ((g.S.Store.files c.answer.new.store) ≡ Some new)
    × IsRan table begun files new (g.S.Store.faults c.args.store.now) (g.S.Store.faults c.answer.new.store) c.answer.result
    (g.K.Sink.written c.args.out.now) (g.K.Sink.written c.answer.new.out) (g.K.Sink.faults c.args.out.now) (g.K.Sink.faults c.answer.new.out))))
    (sym asks) c.answer.ensures.runs

-- ---- no command

pub returns-in-Err-Usage-clause-answer : goal.returns-in-Err-Usage-clause-answer
returns-in-Err-Usage-clause-answer g c = told_usage (command_of (texts c.args.words.now)) (g.S.Store.files c.args.store.now)
    (g.I.Inputs.contents c.args.inputs.now) (g.C.Clock.time c.args.clock.now)
    (λ files answer. Carries (Rose (g.I.Inputs.faults c.args.inputs.now) (g.I.Inputs.faults c.args.inputs.now)) answer c.write_fault.result)
    (c.read_words.ensures.usage cc) (λ files told. usage_carried c.write_fault.result _ c.write_fault.ensures.status)

pub returns-in-Err-Usage-clause-complete : goal.returns-in-Err-Usage-clause-complete
returns-in-Err-Usage-clause-complete g c store_kept inputs_kept out_kept = told_usage (command_of (texts c.args.words.now))
    (g.S.Store.files c.args.store.now) (g.I.Inputs.contents c.args.inputs.now) (g.C.Clock.time c.args.clock.now)
    (λ files answer. (c.write_fault.result ≡ status.Memory) ⊎ (c.write_fault.result ≡ status_of answer)) (c.read_words.ensures.usage cc)
    (λ files told. swap_either c.write_fault.ensures.status)

pub returns-in-Err-Usage-clause-leaves : goal.returns-in-Err-Usage-clause-leaves
returns-in-Err-Usage-clause-leaves g c = told_usage (command_of (texts c.args.words.now)) (g.S.Store.files c.args.store.now)
    (g.I.Inputs.contents c.args.inputs.now) (g.C.Clock.time c.args.clock.now)
    (λ files answer. LeavesAnswered answer c.write_fault.result files (g.S.Store.files c.args.store.now)) (c.read_words.ensures.usage cc)
    (λ files told. stops_leave status.Usage c.write_fault.result files (g.S.Store.files c.args.store.now) told)

pub returns-in-Err-Usage-clause-report : goal.returns-in-Err-Usage-clause-report
returns-in-Err-Usage-clause-report g c = told_usage (command_of (texts c.args.words.now)) (g.S.Store.files c.args.store.now)
    (g.I.Inputs.contents c.args.inputs.now) (g.C.Clock.time c.args.clock.now)
    (λ files answer. Writes (report_lines answer c.write_fault.result) (g.K.Sink.written c.args.out.now) (g.K.Sink.written c.write_fault.new.out)
    (g.K.Sink.faults c.args.out.now) (g.K.Sink.faults c.write_fault.new.out)) (c.read_words.ensures.usage cc)
    (λ files told. subst (λ (lines : List ℕ). Writes lines (g.K.Sink.written c.args.out.now) (g.K.Sink.written c.write_fault.new.out)
    (g.K.Sink.faults c.args.out.now) (g.K.Sink.faults c.write_fault.new.out))
    (sym (fault_report (refused status.Usage) status.Usage c.write_fault.result tt c.write_fault.ensures.status)) c.write_fault.ensures.report)

pub returns-in-Err-Usage-clause-fault_lines : goal.returns-in-Err-Usage-clause-fault_lines
returns-in-Err-Usage-clause-fault_lines g c fault = ([], (λ nothing. refl), c.write_fault.ensures.report)

pub returns-in-Err-Usage-clause-runs : goal.returns-in-Err-Usage-clause-runs
returns-in-Err-Usage-clause-runs g c = no_run (command_of (texts c.args.words.now)) (c.read_words.ensures.usage cc) (g.S.Store.files c.args.store.now) (g.I.Inputs.contents c.args.inputs.now) _

-- ---- want of memory

pub returns-in-Err-Memory-clause-answer : goal.returns-in-Err-Memory-clause-answer
returns-in-Err-Memory-clause-answer g c = told_anyway (command_of (texts c.args.words.now)) (g.S.Store.files c.args.store.now)
    (g.I.Inputs.contents c.args.inputs.now) (g.C.Clock.time c.args.clock.now)
    (λ files answer. Carries (Rose (g.I.Inputs.faults c.args.inputs.now) (g.I.Inputs.faults c.args.inputs.now)) answer status.Memory)
    (λ files told answer. tt)

pub returns-in-Err-Memory-clause-complete : goal.returns-in-Err-Memory-clause-complete
returns-in-Err-Memory-clause-complete g c store_kept inputs_kept out_kept = told_anyway (command_of (texts c.args.words.now))
    (g.S.Store.files c.args.store.now) (g.I.Inputs.contents c.args.inputs.now) (g.C.Clock.time c.args.clock.now)
    (λ files answer. (status.Memory ≡ status.Memory) ⊎ (status.Memory ≡ status_of answer)) (λ files told answer. inl refl)

pub returns-in-Err-Memory-clause-leaves : goal.returns-in-Err-Memory-clause-leaves
returns-in-Err-Memory-clause-leaves g c = told_anyway (command_of (texts c.args.words.now)) (g.S.Store.files c.args.store.now)
    (g.I.Inputs.contents c.args.inputs.now) (g.C.Clock.time c.args.clock.now)
    (λ files answer. LeavesAnswered answer status.Memory files (g.S.Store.files c.args.store.now)) (λ files told answer. inl told)

pub returns-in-Err-Memory-clause-report : goal.returns-in-Err-Memory-clause-report
returns-in-Err-Memory-clause-report g c = told_anyway (command_of (texts c.args.words.now)) (g.S.Store.files c.args.store.now)
    (g.I.Inputs.contents c.args.inputs.now) (g.C.Clock.time c.args.clock.now)
    (λ files answer. Writes (report_lines answer status.Memory) (g.K.Sink.written c.args.out.now) (g.K.Sink.written c.args.out.now)
    (g.K.Sink.faults c.args.out.now) (g.K.Sink.faults c.args.out.now))
    (λ files told answer. nothing_writes (g.K.Sink.written c.args.out.now) _ _ (memory_report answer))

pub returns-in-Err-Memory-clause-fault_lines : goal.returns-in-Err-Memory-clause-fault_lines
returns-in-Err-Memory-clause-fault_lines g c fault = ([], (λ nothing. refl), nothing_writes (g.K.Sink.written c.args.out.now) _ _ refl)

pub returns-in-Err-Memory-clause-runs : goal.returns-in-Err-Memory-clause-runs
returns-in-Err-Memory-clause-runs g c = memory_of_run (command_of (texts c.args.words.now)) (g.S.Store.files c.args.store.now)
    (g.I.Inputs.contents c.args.inputs.now) (g.S.Store.faults c.args.store.now) (g.S.Store.faults c.args.store.now)
    (g.I.Inputs.faults c.args.inputs.now) (g.I.Inputs.faults c.args.inputs.now) (g.K.Sink.written c.args.out.now) (g.K.Sink.faults c.args.out.now)
    (g.K.Sink.faults c.args.out.now)

pub returns-in-Err-Usage-clause-quiet : goal.returns-in-Err-Usage-clause-quiet
returns-in-Err-Usage-clause-quiet g c done = absurd (told_is_no_end status.Usage c.write_fault.result tt c.write_fault.ensures.status done)
