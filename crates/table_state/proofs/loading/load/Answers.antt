use Rattle.std.proofs.Common.{◌∙◌, refl}
use Rattle.table_metadata.specs.Metadata.{parts}
use Rattle.table_state.proofs.LoadingLaws.{branch_fails, version_fails, what_is_loaded}
use Rattle.table_state.proofs.ReadCounts.{load_reads}
use Rattle.table_state.proofs.loading.load.Goals as goal

pub returns-in-Err-clause-err : goal.returns-in-Err-clause-err
returns-in-Err-clause-err g c f m files is = version_fails c.args.table.now c.args.version c.args.branch.now files c.in-Err.fault (c.in-Err.ensures.err f m files is)

pub returns-in-Err-load_branch-clause-err : goal.returns-in-Err-load_branch-clause-err
returns-in-Err-load_branch-clause-err g c f m files is =
    branch_fails c.args.table.now c.args.version c.args.branch.now files c.in-Ok.metadata c.in-Err-load_branch.fault (c.in-Ok.ensures.ok files is) (c.in-Err-load_branch.ensures.answers f m files (c.in-Ok.ensures.files ∙ is))

pub returns-clause-ok : goal.returns-clause-ok
returns-clause-ok g c files is =
    let loaded = what_is_loaded c.args.table.now (parts c.in-Ok.metadata) files c.args.branch.now c.in-Ok-load_branch.loaded (c.in-Ok-load_branch.ensures.answers files (c.in-Ok.ensures.files ∙ is)) in
    record { table_name = c.in_ok-copy_of.ensures; version_number = refl; branch_name = c.in_ok-copy_of-2.ensures; metadata = c.in-Ok.ensures.ok files is; head = loaded.0; held = loaded.1 }

pub returns-in-Err-load_branch-clause-reads : goal.returns-in-Err-load_branch-clause-reads
returns-in-Err-load_branch-clause-reads g c files is =
    load_reads (g.S.Store.reads c.args.store.now) (g.S.Store.reads c.read_version.new.store) (g.S.Store.reads c.load_branch.new.store) c.args.table.now c.args.version c.args.branch.now files
    c.in-Ok.metadata (c.in-Ok.ensures.ok files is) c.in-Ok.ensures.reads (c.in-Err-load_branch.ensures.reads files (c.in-Ok.ensures.files ∙ is))

pub returns-in_err-copy_of-clause-reads : goal.returns-in_err-copy_of-clause-reads
returns-in_err-copy_of-clause-reads g c files is =
    load_reads (g.S.Store.reads c.args.store.now) (g.S.Store.reads c.read_version.new.store) (g.S.Store.reads c.load_branch.new.store) c.args.table.now c.args.version c.args.branch.now files
    c.in-Ok.metadata (c.in-Ok.ensures.ok files is) c.in-Ok.ensures.reads (c.in-Ok-load_branch.ensures.reads files (c.in-Ok.ensures.files ∙ is))

pub returns-in_err-copy_of-2-clause-reads : goal.returns-in_err-copy_of-2-clause-reads
returns-in_err-copy_of-2-clause-reads g c files is =
    load_reads (g.S.Store.reads c.args.store.now) (g.S.Store.reads c.read_version.new.store) (g.S.Store.reads c.load_branch.new.store) c.args.table.now c.args.version c.args.branch.now files
    c.in-Ok.metadata (c.in-Ok.ensures.ok files is) c.in-Ok.ensures.reads (c.in-Ok-load_branch.ensures.reads files (c.in-Ok.ensures.files ∙ is))

pub returns-clause-reads : goal.returns-clause-reads
returns-clause-reads g c files is =
    load_reads (g.S.Store.reads c.args.store.now) (g.S.Store.reads c.read_version.new.store) (g.S.Store.reads c.load_branch.new.store) c.args.table.now c.args.version c.args.branch.now files
    c.in-Ok.metadata (c.in-Ok.ensures.ok files is) c.in-Ok.ensures.reads (c.in-Ok-load_branch.ensures.reads files (c.in-Ok.ensures.files ∙ is))
