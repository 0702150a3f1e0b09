use Rattle.std.proofs.Common.{List, ℕ, subst}
use Rattle.commit_builder.specs.Puts.{PutsManifests}
use Rattle.commit_builder.proofs.Puts.{puts_drawn}
use Rattle.commit_builder.proofs.commit.put_list.Goals as goal

pub returns-in-Ok-clause-others : goal.returns-in-Ok-clause-others
returns-in-Ok-clause-others g c =
    let names = c.args.names.now in
    let old = g.S.Store.files c.args.store.now in
    let new = g.S.Store.files c.put_next.new.store in
    subst (λ (table : List ℕ). PutsManifests table names old new) c.as_str-table.ensures
    (puts_drawn 1 c.as_str-table.result.now names c.put_next.new.names old new c.put_next.ensures.draws)

pub returns-in-Err-clause-others : goal.returns-in-Err-clause-others
returns-in-Err-clause-others g c =
    let names = c.args.names.now in
    let old = g.S.Store.files c.args.store.now in
    let new = g.S.Store.files c.put_next.new.store in
    subst (λ (table : List ℕ). PutsManifests table names old new) c.as_str-table.ensures
    (puts_drawn 1 c.as_str-table.result.now names c.put_next.new.names old new c.put_next.ensures.draws)
