use Rattle.std.proofs.Common.{◌≡◌, Some, ap}
use Rattle.command_line.specs.declared.words.Command.{Command}
use Rattle.command_line.specs.Words.{create, rows, wanted}
use Rattle.dml_program.specs.Answers.{LeavesAnswered, so_far}
use Rattle.dml_program.proofs.ToldAnswers.{create_found, create_refused, only_reads_by, rows_found, rows_refused, told_create, told_rows}
use Rattle.dml_program.proofs.run.carry_out.Goals as goal

-- ---- `rows`

pub returns-in-Rows-clause-found : goal.returns-in-Rows-clause-found
returns-in-Rows-clause-found g c =
    let asks : Some (wanted c.args.command) ≡ Some (rows c.in-Rows.table.now) = ap (λ (m : Command). Some (wanted m)) c.in-Rows.is in
    rows_found (Some (wanted c.args.command)) (g.S.Store.files c.args.store.now) (g.I.Inputs.contents c.args.inputs.now) (g.C.Clock.time c.args.clock.now) c.rows.result (λ lines. lines.items) c.in-Rows.table.now asks c.rows.ensures.found

pub returns-in-Rows-clause-refused : goal.returns-in-Rows-clause-refused
returns-in-Rows-clause-refused g c =
    let asks : Some (wanted c.args.command) ≡ Some (rows c.in-Rows.table.now) = ap (λ (m : Command). Some (wanted m)) c.in-Rows.is in
    rows_refused (Some (wanted c.args.command)) (g.S.Store.files c.args.store.now) (g.I.Inputs.contents c.args.inputs.now) (g.C.Clock.time c.args.clock.now) c.rows.result _ c.in-Rows.table.now asks c.rows.ensures.refused

pub returns-in-Rows-clause-leaves : goal.returns-in-Rows-clause-leaves
returns-in-Rows-clause-leaves g c =
    let asks : Some (wanted c.args.command) ≡ Some (rows c.in-Rows.table.now) = ap (λ (m : Command). Some (wanted m)) c.in-Rows.is in
    told_rows (Some (wanted c.args.command)) (g.S.Store.files c.args.store.now) (g.I.Inputs.contents c.args.inputs.now)
    (g.C.Clock.time c.args.clock.now) (λ files answer. LeavesAnswered answer (so_far c.rows.result) files
    (g.S.Store.files c.rows.new.store)) c.in-Rows.table.now asks c.rows.ensures.leaves

-- ---- `create`

pub returns-in-Create-clause-found : goal.returns-in-Create-clause-found
returns-in-Create-clause-found g c =
    let asks : Some (wanted c.args.command) ≡ Some (create c.in-Create.table.now c.in-Create.schema.now) = ap (λ (m : Command). Some (wanted m)) c.in-Create.is in
    create_found (Some (wanted c.args.command)) (g.S.Store.files c.args.store.now) (g.I.Inputs.contents c.args.inputs.now) (g.C.Clock.time c.args.clock.now) c.create.result (λ lines. lines.items) c.in-Create.table.now c.in-Create.schema.now asks c.create.ensures.found

pub returns-in-Create-clause-refused : goal.returns-in-Create-clause-refused
returns-in-Create-clause-refused g c =
    let asks : Some (wanted c.args.command) ≡ Some (create c.in-Create.table.now c.in-Create.schema.now) = ap (λ (m : Command). Some (wanted m)) c.in-Create.is in
    create_refused (Some (wanted c.args.command)) (g.S.Store.files c.args.store.now) (g.I.Inputs.contents c.args.inputs.now) (g.C.Clock.time c.args.clock.now) c.create.result _ c.in-Create.table.now c.in-Create.schema.now asks c.create.ensures.refused

pub returns-in-Create-clause-leaves : goal.returns-in-Create-clause-leaves
returns-in-Create-clause-leaves g c =
    let asks : Some (wanted c.args.command) ≡ Some (create c.in-Create.table.now c.in-Create.schema.now) = ap (λ (m : Command). Some (wanted m)) c.in-Create.is in
    told_create (Some (wanted c.args.command)) (g.S.Store.files c.args.store.now) (g.I.Inputs.contents c.args.inputs.now)
    (g.C.Clock.time c.args.clock.now) (λ files answer. LeavesAnswered answer (so_far c.create.result) files
    (g.S.Store.files c.create.new.store)) c.in-Create.table.now c.in-Create.schema.now asks c.create.ensures.leaves

pub returns-in-Create-clause-only_reads : goal.returns-in-Create-clause-only_reads
returns-in-Create-clause-only_reads g c reads =
    let asks : Some (wanted c.args.command) ≡ Some (create c.in-Create.table.now c.in-Create.schema.now) = ap (λ (m : Command). Some (wanted m)) c.in-Create.is in
    only_reads_by (Some (wanted c.args.command)) c.in-Create.table.now c.in-Create.schema.now asks reads
