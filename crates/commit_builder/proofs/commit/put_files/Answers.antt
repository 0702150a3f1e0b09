use Rattle.std.proofs.Common.{◌∙◌}
use Rattle.commit_builder.proofs.Manifests.{list_step, on_ok}
use Rattle.commit_builder.proofs.Puts.{others_then}
use Rattle.commit_builder.proofs.commit.put_files.Goals as goal

pub returns-clause-files : goal.returns-clause-files
returns-clause-files g c =
    on_ok c.put_list.result c.put_list.ensures.files
    (λ is. list_step c.args.head.now c.args.change.now c.args.names.now c.put_rows.new.names c.as_slice.result.now (g.S.Store.files c.args.store.now) (g.S.Store.files c.put_rows.new.store) (g.S.Store.files c.put_list.new.store)
    c.in-Ok.ensures.names (c.as_slice.ensures.value ∙ c.in-Ok.ensures.rows) c.in-Ok.ensures.files is)

pub returns-clause-others : goal.returns-clause-others
returns-clause-others g c =
    others_then c.args.head.now.table c.args.names.now c.put_rows.new.names (g.S.Store.files c.args.store.now) (g.S.Store.files c.put_rows.new.store) (g.S.Store.files c.put_list.new.store)
    c.put_rows.ensures.session.0 c.put_rows.ensures.session.1 c.put_rows.ensures.raised.0 c.put_rows.ensures.others c.put_list.ensures.others
