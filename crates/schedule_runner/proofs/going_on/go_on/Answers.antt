use Rattle.std.proofs.Common.{List, [], ◌∷◌, ◌++◌, ap, ◌∙◌}
use Rattle.session_machine.specs.declared.event.Stepped.{Stepped}
use Rattle.session_steps.specs.declared.fault.RunFault.TheVariants as run
use Rattle.schedule_runner.proofs.StepLaws.{ended, keeps, made, unmade}
use Rattle.schedule_runner.proofs.going_on.go_on.Goals as goal

pub returns-then-is_err-clause-ends : goal.returns-then-is_err-clause-ends
returns-then-is_err-clause-ends g c = λ old told start first place begun running.
    let made = unmade c.args.table.now c.args.schema.now c.args.sources.now c.args.statements.now c.requires.changes c.requires.statements.main start first place begun c.args.session.now c.requires.at_hand c.args.steps.now.items c.reserve.new.self.items old
    (g.S.Store.faults c.args.store.now) (g.S.Store.faults c.args.store.now) run.Memory c.reserve.ensures.items running in
    (old, told, made.0, made.1)

pub returns-in-Err-clause-ends : goal.returns-in-Err-clause-ends
returns-in-Err-clause-ends g c = λ old told start first place begun running.
    let left = c.in-Err.ensures.ends old told running.last running.still in
    let made =
    ended c.args.table.now c.args.schema.now c.args.sources.now c.args.statements.now c.requires.changes c.requires.statements.main start first place begun c.args.session.now c.requires.at_hand c.args.steps.now.items c.reserve.new.self.items old left.0
    (keeps (g.S.Store.files c.args.store.now) (g.S.Store.files c.step.new.store) old left.0 told left.1 c.step.ensures.kept) running (g.S.Store.faults c.args.store.now) (g.S.Store.faults c.step.new.store) c.in-Err.fault c.reserve.ensures.items left.2 in
    (left.0, left.1, made.0, made.1)

pub returns-clause-goes : goal.returns-clause-goes
returns-clause-goes g c = λ old told start first place begun running.
    let stepped = c.in-Ok.ensures.steps old told running.last running.still in (
      stepped.0,
      stepped.1,
      made c.args.table.now c.args.schema.now c.args.sources.now c.args.statements.now c.requires.changes c.requires.statements.main start first place begun c.args.session.now c.requires.at_hand c.args.steps.now.items c.push.new.self.items old stepped.0
          (keeps (g.S.Store.files c.args.store.now) (g.S.Store.files c.step.new.store) old stepped.0 told stepped.1 c.step.ensures.kept) running c.step.new.session c.in-Ok.stepped
          (c.in-Ok-push.ensures.items ∙ ap (λ (xs : List Stepped). xs ++ c.in-Ok.stepped ∷ []) c.reserve.ensures.items) stepped.2,
    )
