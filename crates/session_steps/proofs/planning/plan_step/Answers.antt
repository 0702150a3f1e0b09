use Rattle.std.proofs.Common.{Option, subst, sym, arith}
use Rattle.store_core.specs.Files.{Files, KeepsFiles}
use Rattle.cow_writer.specs.PutNames.{PutsDataFiles}
use Rattle.commit_builder.specs.NextVersion.{AreNames}
use Rattle.session_steps.proofs.Plans.{plan_steps}
use Rattle.session_steps.proofs.Faulted.{by_plan}
use Rattle.session_steps.proofs.Known.{of_plan}
use Rattle.session_steps.proofs.Resting.{by_data}
use Rattle.session_steps.proofs.StillNamed.{still_named}
use Rattle.session_steps.proofs.planning.plan_step.Goals as goal

pub returns-in-Ok-take-clause-step : goal.returns-in-Ok-take-clause-step
returns-in-Ok-take-clause-step g c old told current is =
    plan_steps c.args.table.now c.args.schema.now c.args.sources.now c.args.statement.now c.requires.main old current is c.args.session.now.place c.take.new.session c.in-Ok-take.stepped c.requires.phase c.args.session.now.names c.plan.new.names
    (g.S.Store.files c.plan.new.store) c.requires.named c.if-session-ge-NAMES_END.false c.plan.ensures.raised.1 (c.requires.free old told)
    (subst (λ (files : Option Files). KeepsFiles files (g.S.Store.files c.plan.new.store)) told c.plan.ensures.kept)
    (subst (λ (files : Option Files). PutsDataFiles c.args.table.now c.args.session.now.names files (g.S.Store.files c.plan.new.store)) told c.plan.ensures.others)
    c.in-Ok.planned (c.in-Ok.ensures.planned old told) c.in-Ok-take.ensures.turned c.in-Ok-take.ensures.pending

pub returns-in-Err-clause-others : goal.returns-in-Err-clause-others
returns-in-Err-clause-others g c = by_data c.args.table.now c.args.session.now.names (g.S.Store.files c.args.store.now) (g.S.Store.files c.plan.new.store) c.plan.ensures.others

pub returns-in-Ok-take-clause-others : goal.returns-in-Ok-take-clause-others
returns-in-Ok-take-clause-others g c = by_data c.args.table.now c.args.session.now.names (g.S.Store.files c.args.store.now) (g.S.Store.files c.plan.new.store) c.plan.ensures.others

pub returns-in-Err-take-clause-others : goal.returns-in-Err-take-clause-others
returns-in-Err-take-clause-others g c = by_data c.args.table.now c.args.session.now.names (g.S.Store.files c.args.store.now) (g.S.Store.files c.plan.new.store) c.plan.ensures.others

pub returns-in-Err-clause-known : goal.returns-in-Err-clause-known
returns-in-Err-clause-known g c = λ number statement is. of_plan c.in-Err.fault c.plan_fault.result number statement c.plan_fault.ensures is

pub returns-in-Err-clause-faulted : goal.returns-in-Err-clause-faulted
returns-in-Err-clause-faulted g c = λ old told. by_plan c.args.table.now c.args.schema.now c.args.statement.now old c.in-Err.fault c.plan_fault.result c.plan_fault.ensures (c.in-Err.ensures.refused old told)

pub returns-in-Err-clause-named : goal.returns-in-Err-clause-named
returns-in-Err-clause-named g c = still_named c.args.session.now.names c.plan.new.names c.requires.named c.plan.ensures.session (omega (arith, c.if-session-ge-NAMES_END.false, c.plan.ensures.raised.1))

pub returns-in-Ok-take-clause-named : goal.returns-in-Ok-take-clause-named
returns-in-Ok-take-clause-named g c = subst AreNames (sym c.take.ensures.names) (still_named c.args.session.now.names c.plan.new.names c.requires.named c.plan.ensures.session (omega (arith, c.if-session-ge-NAMES_END.false, c.plan.ensures.raised.1)))

pub returns-in-Err-take-clause-named : goal.returns-in-Err-take-clause-named
returns-in-Err-take-clause-named g c = subst AreNames (sym c.take.ensures.names) (still_named c.args.session.now.names c.plan.new.names c.requires.named c.plan.ensures.session (omega (arith, c.if-session-ge-NAMES_END.false, c.plan.ensures.raised.1)))
