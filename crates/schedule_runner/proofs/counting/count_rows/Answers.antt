use Rattle.std.proofs.lemmas.Result.{err_from_is_err_and}
use Rattle.schedule_runner.proofs.CountLaws.{all_counted, none_counted, none_loaded}
use Rattle.schedule_runner.proofs.counting.count_rows.Goals as goal

pub returns-in_err-state-clause-refused : goal.returns-in_err-state-clause-refused
returns-in_err-state-clause-refused g c =
    let p = err_from_is_err_and c.from_residual.result c.from_residual.ensures.1 in
    rw (p.1, p.2) (λ store memory. none_loaded c.args.table.now c.args.branch.now (g.S.Store.files c.args.store.now) _ (c.in_err-state.ensures.err store memory))

pub returns-clause-counted : goal.returns-clause-counted
returns-clause-counted g c =
    all_counted c.args.table.now c.args.branch.now (g.S.Store.files c.args.store.now) c.in_ok-state.state c.in_ok-state.ensures.ok (g.S.Store.files c.load_current.new.store) c.load_current.ensures.files c.data_files_of.result.now c.data_files_of.ensures
    c.count_in_files.result c.count_in_files.ensures.ok

pub returns-clause-refused : goal.returns-clause-refused
returns-clause-refused g c =
    none_counted c.args.table.now c.args.branch.now (g.S.Store.files c.args.store.now) c.in_ok-state.state c.in_ok-state.ensures.ok (g.S.Store.files c.load_current.new.store) c.load_current.ensures.files c.data_files_of.result.now c.data_files_of.ensures
    c.count_in_files.result c.count_in_files.ensures.err
