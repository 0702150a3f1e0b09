use Rattle.std.proofs.Common.{ℤ, List, subst, sym, arith, w64}
use Rattle.std.proofs.lemmas.Int.{to_z-of_z}
use Rattle.std.specs.Prelude.{Err}
use Rattle.manifest_files.specs.declared.entry.Entry.{Entry}
use Rattle.branch_commit.specs.Validation.{IsValidated}
use Rattle.plain_types.specs.Causes.{HasCause}
use Rattle.commit_builder.specs.NextVersion.{AreNames}
use Rattle.session_steps.specs.declared.fault.RunFault.{RunFault}
use Rattle.session_steps.specs.declared.fault.RunFault.TheVariants as run
use Rattle.iceberg_schema.proofs.CallerLemmas.{long_fits}
use Rattle.session_steps.proofs.CommitFaults.{cause_stays}
use Rattle.session_steps.proofs.ValidateLaws.{validation_steps}
use Rattle.session_steps.proofs.Faulted.{by_commit}
use Rattle.session_steps.proofs.Known.{of_commit}
use Rattle.session_steps.proofs.Resting.{by_metadata}
use Rattle.session_steps.proofs.StillNamed.{still_named}
use Rattle.session_steps.proofs.validating.validate_step.Goals as goal

pub returns-in-Ok-take-clause-step : goal.returns-in-Ok-take-clause-step
returns-in-Ok-take-clause-step g c old is schema sources s current main was has =
    validation_steps c.args.table.now schema sources s old current c.args.session.now was main has c.in-Some.pending (sym c.in-Some.ensures.value)
    c.args.session.now.names c.validate-validated.new.names c.args.now_ms c.in-Ok.validated c.requires.named (long_fits c.args.now_ms c.ranges.now_ms) (omega (arith, c.if-session-ge-NAMES_END.false)) c.validate-validated.ensures.raised.1
    (g.S.Store.files c.args.store.now) (g.S.Store.files c.validate-validated.new.store) is
    (subst (λ (base : List Entry). IsValidated c.in-Some.pending.plan c.in-Some.pending.change base c.args.session.now.names c.args.now_ms c.args.table.now old (g.S.Store.files c.validate-validated.new.store) c.validate-validated.new.names c.in-Ok.validated) c.data_files_of-base.ensures
    (subst (λ (now : ℤ). IsValidated c.in-Some.pending.plan c.in-Some.pending.change c.data_files_of-base.result.now c.args.session.now.names now c.args.table.now old
    (g.S.Store.files c.validate-validated.new.store) c.validate-validated.new.names c.in-Ok.validated)
    (to_z-of_z w64 c.args.now_ms c.ranges.now_ms)
    (c.in-Ok.ensures.validated old is)))
    c.requires.free c.validate-validated.ensures.others c.validate-validated.ensures.kept
    c.take-in-Ok.new.session c.in-Ok-take.ensures.prepared c.in-Ok-take.ensures.pending c.requires.phase c.in-Ok-take.stepped c.in-Ok-take.ensures.turned

pub returns-in-Err-clause-cause : goal.returns-in-Err-clause-cause
returns-in-Err-clause-cause g c =
    subst (λ (fault : RunFault). HasCause run.Store run.Memory (g.S.Store.faults c.args.store.now) (g.S.Store.faults c.validate-validated.new.store) (Err fault)) (sym c.commit_fault.ensures)
    (cause_stays (g.S.Store.faults c.args.store.now) (g.S.Store.faults c.validate-validated.new.store) c.in-Err.fault c.in-Err.ensures.cause)

pub returns-in-Err-clause-others : goal.returns-in-Err-clause-others
returns-in-Err-clause-others g c = by_metadata c.args.table.now c.args.session.now.names (g.S.Store.files c.args.store.now) (g.S.Store.files c.validate-validated.new.store) c.validate-validated.ensures.others

pub returns-in-Ok-take-clause-others : goal.returns-in-Ok-take-clause-others
returns-in-Ok-take-clause-others g c = by_metadata c.args.table.now c.args.session.now.names (g.S.Store.files c.args.store.now) (g.S.Store.files c.validate-validated.new.store) c.validate-validated.ensures.others

pub returns-in-Err-take-clause-others : goal.returns-in-Err-take-clause-others
returns-in-Err-take-clause-others g c = by_metadata c.args.table.now c.args.session.now.names (g.S.Store.files c.args.store.now) (g.S.Store.files c.validate-validated.new.store) c.validate-validated.ensures.others

pub returns-in-Err-clause-known : goal.returns-in-Err-clause-known
returns-in-Err-clause-known g c = λ number statement is. of_commit c.in-Err.fault c.commit_fault.result number statement c.commit_fault.ensures is

pub returns-in-Err-clause-faulted : goal.returns-in-Err-clause-faulted
returns-in-Err-clause-faulted g c = λ old told schema sources s has. by_commit c.args.table.now schema s old sources c.args.session.now c.in-Some.pending (sym c.in-Some.ensures.value) has c.in-Err.fault c.commit_fault.result c.commit_fault.ensures (c.in-Err.ensures.refused old told)

pub returns-in-Err-clause-named : goal.returns-in-Err-clause-named
returns-in-Err-clause-named g c = still_named c.args.session.now.names c.validate-validated.new.names c.requires.named c.validate-validated.ensures.session (omega (arith, c.if-session-ge-NAMES_END.false, c.validate-validated.ensures.raised.1))

pub returns-in-Ok-take-clause-named : goal.returns-in-Ok-take-clause-named
returns-in-Ok-take-clause-named g c = subst AreNames (sym c.take-in-Ok.ensures.names) (still_named c.args.session.now.names c.validate-validated.new.names c.requires.named c.validate-validated.ensures.session (omega (arith, c.if-session-ge-NAMES_END.false, c.validate-validated.ensures.raised.1)))

pub returns-in-Err-take-clause-named : goal.returns-in-Err-take-clause-named
returns-in-Err-take-clause-named g c = subst AreNames (sym c.take-in-Ok.ensures.names) (still_named c.args.session.now.names c.validate-validated.new.names c.requires.named c.validate-validated.ensures.session (omega (arith, c.if-session-ge-NAMES_END.false, c.validate-validated.ensures.raised.1)))
