use Rattle.std.proofs.Common.{◌+◌, ◌<◌, ◌^◌, ℕ, List, ap, ◌∙◌, subst, arith}
use Rattle.std.specs.FinMap as map
use Rattle.store_core.specs.Files.{MayAdd}
use Rattle.store_core.proofs.CallerLemmas.{may_add-put}
use Rattle.table_names.specs.Drawing.{name_in_folder}
use Rattle.table_names.proofs.DrawingLemmas.{draws_only, draws_put, next_is_free}
use Rattle.table_names.proofs.puts.put_next.Goals as goal

pub returns-in_err-name-clause-draws : goal.returns-in_err-name-clause-draws
returns-in_err-name-clause-draws g c =
    let table = c.args.table.now in
    let names = c.args.names.now in
    let files = g.S.Store.files c.args.store.now in
    draws_only table names (name_in_folder c.args.folder table names) c.next_name.new.names files c.next_name.ensures.drawn c.requires.free

pub put-requires : goal.put-requires
put-requires g c = λ told is.
    let room : c.args.names.now.next + 1 < 2 ^ 128 = c.requires.room in
    ap (λ (name : List ℕ). map.get told name) (c.as_str.ensures.value ∙ c.in_ok-name.ensures.name)
    ∙ next_is_free c.args.folder c.args.table.now c.args.names.now told (omega arith) (c.requires.free told is)

pub returns-clause-draws : goal.returns-clause-draws
returns-clause-draws g c =
    let old = g.S.Store.files c.args.store.now in
    let new = g.S.Store.files c.put.new.self in
    let put = c.put.ensures in
    let may = may_add-put c.as_str.result.now c.args.bytes.now old new c.put.result put.ok put.failed put.memory in
    draws_put c.args.table.now c.args.names.now c.args.folder c.next_name.new.names old new c.next_name.ensures.drawn
    (subst (λ (name : List ℕ). MayAdd name old new) (c.as_str.ensures.value ∙ c.in_ok-name.ensures.name) may) c.requires.free
