use Rattle.std.proofs.Common.{◌≡◌, codes, length, refl, slice_get, subst, sym}
use Rattle.std.proofs.lemmas.Option.{slice_get_past, slice_get_read}
use Rattle.std.specs.Option.{ForSome}
use Rattle.sql_statements.specs.Tables.{branch_of}
use Rattle.sql_statements.specs.declared.statement.Statement.{Statement}
use Rattle.table_names.specs.declared.names.Names.{Names}
use Rattle.table_names.specs.FileNames.{NoneFrom}
use Rattle.session_machine.specs.declared.place.Phase.TheVariants as phase
use Rattle.session_steps.proofs.Ends.{all_at, at_hand, by_statement, each_err, free_after, has_version, held_in, if_err, if_ok, nothing, others_after, swap_ends_of, version_missing}
use Rattle.session_steps.proofs.Faulted as faulted
use Rattle.session_steps.proofs.Resting.{ends_as_before}
use Rattle.session_steps.proofs.StillNamed.{told_after}
use Rattle.session_steps.proofs.stepping.step.Goals as goal

pub returns-in-None-clause-steps : goal.returns-in-None-clause-steps
returns-in-None-clause-steps g c =
    let none = slice_get_past c.args.statements.now c.args.session.now.place.at c.in-None.ensures.lookup.3 in
    λ files told current was. (files, told, nothing c.args.table.now c.args.schema.now c.args.sources.now files current c.args.session.now (slice_get c.args.statements.now c.args.session.now.place.at) none)

pub swap_step-requires-clause-missing : goal.swap_step-requires-clause-missing
swap_step-requires-clause-missing g c =
    let found = slice_get_read c.args.statements.now (length c.args.statements.now) c.args.session.now.place.at c.in-Some.statement.now refl c.in-Some.ensures.lookup.3.0 c.in-Some.ensures.lookup.1 in
    λ files told prepared made. version_missing c.args.table.now c.args.schema.now c.args.sources.now c.in-Some.statement.now files
    (c.requires.open files told).0 c.args.session.now (c.requires.open files told).1
    (held_in c.args.table.now c.args.schema.now c.args.sources.now files c.args.session.now
    (slice_get c.args.statements.now c.args.session.now.place.at) c.in-Some.statement.now phase.Swap found c.in-Swap.is
    (c.requires.held files told)) prepared made

pub returns-in-Plan-clause-steps : goal.returns-in-Plan-clause-steps
returns-in-Plan-clause-steps g c =
    let found = slice_get_read c.args.statements.now (length c.args.statements.now) c.args.session.now.place.at c.in-Some.statement.now refl c.in-Some.ensures.lookup.3.0 c.in-Some.ensures.lookup.1 in
    if_ok c.plan_step.result c.plan_step.ensures.step (λ stepped step files told current was.
    let made = step files told current was in
    (made.0, made.1, by_statement c.args.table.now c.args.schema.now c.args.sources.now files made.0 current c.args.session.now.place c.plan_step.new.session stepped (slice_get c.args.statements.now c.args.session.now.place.at) c.in-Some.statement.now found made.2))

pub returns-in-Plan-clause-ends : goal.returns-in-Plan-clause-ends
returns-in-Plan-clause-ends g c =
    let found = slice_get_read c.args.statements.now (length c.args.statements.now) c.args.session.now.place.at c.in-Some.statement.now refl c.in-Some.ensures.lookup.3.0 c.in-Some.ensures.lookup.1 in
    each_err c.plan_step.result (λ fault files told current was. ends_as_before c.args.table.now c.args.schema.now files current c.args.session.now.names was c.args.sources.now c.in-Some.statement.now c.args.session.now.place
    (g.S.Store.faults c.args.store.now) (g.S.Store.faults c.plan_step.new.store) fault
    (slice_get c.args.statements.now c.args.session.now.place.at) (g.S.Store.files c.args.store.now)
    (g.S.Store.files c.plan_step.new.store) found told c.plan_step.ensures.kept c.plan_step.ensures.others)

pub returns-in-Plan-clause-unknown : goal.returns-in-Plan-clause-unknown
returns-in-Plan-clause-unknown g c =
    λ number statement is. absurd (c.plan_step.ensures.known number statement is)

pub returns-in-Validate-clause-steps : goal.returns-in-Validate-clause-steps
returns-in-Validate-clause-steps g c =
    let found = slice_get_read c.args.statements.now (length c.args.statements.now) c.args.session.now.place.at c.in-Some.statement.now refl c.in-Some.ensures.lookup.3.0 c.in-Some.ensures.lookup.1 in
    let main = all_at (λ (s : Statement). branch_of s ≡ codes "main") c.args.statements.now c.args.session.now.place.at c.in-Some.statement.now c.requires.statements.main found in
    if_ok c.validate_step.result c.validate_step.ensures.step (λ stepped step files told current was.
    let made = step files told c.args.schema.now c.args.sources.now c.in-Some.statement.now current main was
    (held_in c.args.table.now c.args.schema.now c.args.sources.now files c.args.session.now
    (slice_get c.args.statements.now c.args.session.now.place.at) c.in-Some.statement.now phase.Validate found c.in-Validate.is
    (c.requires.held files told)) in
    (made.0, made.1, by_statement c.args.table.now c.args.schema.now c.args.sources.now files made.0 current c.args.session.now.place c.validate_step.new.session stepped (slice_get c.args.statements.now c.args.session.now.place.at) c.in-Some.statement.now found made.2))

pub returns-in-Validate-clause-ends : goal.returns-in-Validate-clause-ends
returns-in-Validate-clause-ends g c =
    let found = slice_get_read c.args.statements.now (length c.args.statements.now) c.args.session.now.place.at c.in-Some.statement.now refl c.in-Some.ensures.lookup.3.0 c.in-Some.ensures.lookup.1 in
    each_err c.validate_step.result
    (λ fault files told current was. ends_as_before c.args.table.now c.args.schema.now files current c.args.session.now.names was c.args.sources.now c.in-Some.statement.now c.args.session.now.place
    (g.S.Store.faults c.args.store.now) (g.S.Store.faults c.validate_step.new.store) fault
    (slice_get c.args.statements.now c.args.session.now.place.at) (g.S.Store.files c.args.store.now)
    (g.S.Store.files c.validate_step.new.store) found told c.validate_step.ensures.kept c.validate_step.ensures.others)

pub returns-in-Validate-clause-unknown : goal.returns-in-Validate-clause-unknown
returns-in-Validate-clause-unknown g c =
    λ number statement is. absurd (c.validate_step.ensures.known number statement is)

pub returns-in-Swap-clause-steps : goal.returns-in-Swap-clause-steps
returns-in-Swap-clause-steps g c =
    let found = slice_get_read c.args.statements.now (length c.args.statements.now) c.args.session.now.place.at c.in-Some.statement.now refl c.in-Some.ensures.lookup.3.0 c.in-Some.ensures.lookup.1 in
    let main = all_at (λ (s : Statement). branch_of s ≡ codes "main") c.args.statements.now c.args.session.now.place.at c.in-Some.statement.now c.requires.statements.main found in
    if_ok c.swap_step.result c.swap_step.ensures.step (λ stepped step files told current was.
    let made = step files told c.args.table.now c.args.schema.now c.args.sources.now c.in-Some.statement.now current main was
    (held_in c.args.table.now c.args.schema.now c.args.sources.now files c.args.session.now
    (slice_get c.args.statements.now c.args.session.now.place.at) c.in-Some.statement.now phase.Swap found c.in-Swap.is
    (c.requires.held files told)) in
    (made.0, made.1, by_statement c.args.table.now c.args.schema.now c.args.sources.now files made.0 current c.args.session.now.place c.swap_step.new.session stepped (slice_get c.args.statements.now c.args.session.now.place.at) c.in-Some.statement.now found made.2))

pub returns-in-Swap-clause-ends : goal.returns-in-Swap-clause-ends
returns-in-Swap-clause-ends g c =
    let found = slice_get_read c.args.statements.now (length c.args.statements.now) c.args.session.now.place.at c.in-Some.statement.now refl c.in-Some.ensures.lookup.3.0 c.in-Some.ensures.lookup.1 in
    let main = all_at (λ (s : Statement). branch_of s ≡ codes "main") c.args.statements.now c.args.session.now.place.at c.in-Some.statement.now c.requires.statements.main found in
    if_err c.swap_step.result c.swap_step.ensures.ends (λ fault left files told current was.
    let has = held_in c.args.table.now c.args.schema.now c.args.sources.now files c.args.session.now (slice_get c.args.statements.now c.args.session.now.place.at) c.in-Some.statement.now phase.Swap found c.in-Swap.is (c.requires.held files told) in
    swap_ends_of c.args.table.now c.args.schema.now c.args.sources.now c.in-Some.statement.now files current c.args.session.now was has main (g.S.Store.files c.args.store.now)
    (g.S.Store.files c.swap_step.new.store) told (g.S.Store.faults c.args.store.now) (g.S.Store.faults c.swap_step.new.store) c.in-Swap.is
    (slice_get c.args.statements.now c.args.session.now.place.at) found fault (left has.prepared has.made))

pub returns-in-Swap-clause-free : goal.returns-in-Swap-clause-free
returns-in-Swap-clause-free g c =
    let found = slice_get_read c.args.statements.now (length c.args.statements.now) c.args.session.now.place.at c.in-Some.statement.now refl c.in-Some.ensures.lookup.3.0 c.in-Some.ensures.lookup.1 in
    subst (λ (names : Names). ForSome (g.S.Store.files c.swap_step.new.store) (NoneFrom c.args.table.now names.run names.session names.next)) (sym c.swap_step.ensures.names)
    (free_after c.args.table.now c.args.schema.now c.args.sources.now c.in-Some.statement.now c.args.session.now
    (has_version c.args.session.now c.in-Swap.is c.requires.shape) c.args.session.now.names.run c.args.session.now.names.next c.args.session.now.names.session
    (g.S.Store.files c.args.store.now) (g.S.Store.files c.swap_step.new.store) c.swap_step.ensures.swaps
    (at_hand c.args.table.now c.args.schema.now c.args.sources.now c.args.statements.now c.args.session.now c.in-Some.statement.now
    (g.S.Store.files c.args.store.now) found c.in-Swap.is c.requires.open c.requires.held) c.requires.free)

pub returns-in-Swap-clause-others : goal.returns-in-Swap-clause-others
returns-in-Swap-clause-others g c =
    let found = slice_get_read c.args.statements.now (length c.args.statements.now) c.args.session.now.place.at c.in-Some.statement.now refl c.in-Some.ensures.lookup.3.0 c.in-Some.ensures.lookup.1 in
    others_after c.args.table.now c.args.schema.now c.args.sources.now c.in-Some.statement.now c.args.session.now
    (has_version c.args.session.now c.in-Swap.is c.requires.shape) c.args.session.now.names (g.S.Store.files c.args.store.now)
    (g.S.Store.files c.swap_step.new.store) c.swap_step.ensures.swaps
    (at_hand c.args.table.now c.args.schema.now c.args.sources.now c.args.statements.now c.args.session.now c.in-Some.statement.now
    (g.S.Store.files c.args.store.now) found c.in-Swap.is c.requires.open c.requires.held)

pub returns-in-Plan-clause-at_hand : goal.returns-in-Plan-clause-at_hand
returns-in-Plan-clause-at_hand g c =
    λ number statement is. absurd (c.plan_step.ensures.known number statement is)

pub returns-in-Validate-clause-at_hand : goal.returns-in-Validate-clause-at_hand
returns-in-Validate-clause-at_hand g c =
    λ number statement is. absurd (c.validate_step.ensures.known number statement is)

pub returns-in-Plan-clause-faulted : goal.returns-in-Plan-clause-faulted
returns-in-Plan-clause-faulted g c =
    let found = slice_get_read c.args.statements.now (length c.args.statements.now) c.args.session.now.place.at c.in-Some.statement.now refl c.in-Some.ensures.lookup.3.0 c.in-Some.ensures.lookup.1 in
    if_err c.plan_step.result c.plan_step.ensures.faulted (λ fault why files told s is.
    faulted.at_hand c.args.table.now c.args.schema.now files (slice_get c.args.statements.now c.args.session.now.place.at) c.in-Some.statement.now s found is fault (why files told))

pub returns-in-Validate-clause-faulted : goal.returns-in-Validate-clause-faulted
returns-in-Validate-clause-faulted g c =
    let found = slice_get_read c.args.statements.now (length c.args.statements.now) c.args.session.now.place.at c.in-Some.statement.now refl c.in-Some.ensures.lookup.3.0 c.in-Some.ensures.lookup.1 in
    if_err c.validate_step.result c.validate_step.ensures.faulted (λ fault why files told s is.
    faulted.at_hand c.args.table.now c.args.schema.now files
    (slice_get c.args.statements.now c.args.session.now.place.at) c.in-Some.statement.now s found is fault
    (why files told c.args.schema.now c.args.sources.now c.in-Some.statement.now
    (held_in c.args.table.now c.args.schema.now c.args.sources.now files c.args.session.now
    (slice_get c.args.statements.now c.args.session.now.place.at) c.in-Some.statement.now phase.Validate found c.in-Validate.is
    (c.requires.held files told))))

pub returns-in-Swap-clause-faulted : goal.returns-in-Swap-clause-faulted
returns-in-Swap-clause-faulted g c =
    let found = slice_get_read c.args.statements.now (length c.args.statements.now) c.args.session.now.place.at c.in-Some.statement.now refl c.in-Some.ensures.lookup.3.0 c.in-Some.ensures.lookup.1 in
    if_err c.swap_step.result c.swap_step.ensures.ends (λ fault left files told s is.
    let has = (held_in c.args.table.now c.args.schema.now c.args.sources.now files c.args.session.now (slice_get c.args.statements.now c.args.session.now.place.at) c.in-Some.statement.now phase.Swap found c.in-Swap.is (c.requires.held files told)) in
    faulted.at_hand c.args.table.now c.args.schema.now files
    (slice_get c.args.statements.now c.args.session.now.place.at) c.in-Some.statement.now s found is fault
    (faulted.by_swap c.args.table.now c.args.schema.now c.in-Some.statement.now files has.prepared.name has.prepared.bytes
    (g.S.Store.files c.args.store.now) (g.S.Store.files c.swap_step.new.store) (g.S.Store.faults c.args.store.now)
    (g.S.Store.faults c.swap_step.new.store) fault (left has.prepared has.made)))

pub returns-in-Swap-clause-told : goal.returns-in-Swap-clause-told
returns-in-Swap-clause-told g c = told_after c.args.session.now.prepared (has_version c.args.session.now c.in-Swap.is c.requires.shape) (g.S.Store.files c.args.store.now) (g.S.Store.files c.swap_step.new.store) c.swap_step.ensures.swaps
