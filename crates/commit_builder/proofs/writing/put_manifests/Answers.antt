use Rattle.std.proofs.Common.{rules, List, ℕ, option_map, sym, ap, subst, ◌∙◌}
use Rattle.std.specs.List.{AllByRecursion}
use Rattle.store_core.specs.Files.{with_file}
use Rattle.commit_builder.specs.Commits.{IsSpelled, next_name}
use Rattle.commit_builder.proofs.Manifests.{files_step, first_and_rest, rows_step}
use Rattle.commit_builder.specs.Puts.{PutsManifests}
use Rattle.commit_builder.proofs.Puts.{others_then, puts_drawn}
use Rattle.commit_builder.proofs.writing.put_manifests.Goals as goal

pub returns-in-Err-clause-others : goal.returns-in-Err-clause-others
returns-in-Err-clause-others g c =
    let inv = c.loop-rest.invariant in
    let middle = g.S.Store.files c.loop-rest.store in
    let new = g.S.Store.files c.put_next.new.store in
    others_then c.args.head.now.table c.args.names.now c.loop-rest.names (g.S.Store.files c.args.store.now) middle new
    inv.run inv.session inv.above inv.others
    (subst (λ (table : List ℕ). PutsManifests table c.loop-rest.names middle new) c.as_str-table.ensures
    (puts_drawn 1 c.as_str-table.result.now c.loop-rest.names c.put_next.new.names middle new c.put_next.ensures.draws))

pub returns-in_err-push-clause-others : goal.returns-in_err-push-clause-others
returns-in_err-push-clause-others g c =
    let inv = c.loop-rest.invariant in
    let middle = g.S.Store.files c.loop-rest.store in
    let new = g.S.Store.files c.put_next.new.store in
    others_then c.args.head.now.table c.args.names.now c.loop-rest.names (g.S.Store.files c.args.store.now) middle new
    inv.run inv.session inv.above inv.others
    (subst (λ (table : List ℕ). PutsManifests table c.loop-rest.names middle new) c.as_str-table.ensures
    (puts_drawn 1 c.as_str-table.result.now c.loop-rest.names c.put_next.new.names middle new c.put_next.ensures.draws))

pub loop-rest-preserved : goal.loop-rest-preserved
loop-rest-preserved g c = record {
  free = search rules;
  spelled = λ all. c.loop-rest.invariant.spelled (subst (AllByRecursion (IsSpelled c.args.head.now c.args.schema.now)) (sym (first_and_rest c.loop-rest.rest.now c.draft-item.result c.draft-item.is c.in-len1-up.len_at_least)) (c.in_ok-bytes.ensures.spelled, all));
  rows =
      rows_step c.args.head.now c.args.schema.now c.args.numbers c.loop-rest.names c.put_next.new.names c.draft-item.result c.loop-rest.rest.now _ c.loop-rest.rows.items c.push.new.self.items c.in_ok-bytes.row
      (first_and_rest c.loop-rest.rest.now c.draft-item.result c.draft-item.is c.in-len1-up.len_at_least) c.in-Ok.ensures.drawn c.in_ok-bytes.ensures.row c.in_ok-push.ensures.items
      ∙ c.loop-rest.invariant.rows;
  files =
      files_step c.args.head.now c.args.schema.now c.args.numbers c.loop-rest.names c.put_next.new.names c.draft-item.result c.loop-rest.rest.now _ (g.S.Store.files c.loop-rest.store) (g.S.Store.files c.put_next.new.store) c.as_slice-bytes.result.now
      (first_and_rest c.loop-rest.rest.now c.draft-item.result c.draft-item.is c.in-len1-up.len_at_least) c.in-Ok.ensures.drawn (c.as_slice-bytes.ensures.value ∙ c.in_ok-bytes.ensures.text)
      (c.in-Ok.ensures.files
      ∙ ap (λ (table : List ℕ). option_map (with_file (next_name table c.loop-rest.names) c.as_slice-bytes.result.now) (g.S.Store.files c.loop-rest.store)) c.as_str-table.ensures)
      ∙ c.loop-rest.invariant.files;
  run = search rules;
  session = search rules;
  raised = search rules;
  above = search rules;
  others =
      let inv = c.loop-rest.invariant in
      let middle = g.S.Store.files c.loop-rest.store in
      let new = g.S.Store.files c.put_next.new.store in
      others_then c.args.head.now.table c.args.names.now c.loop-rest.names (g.S.Store.files c.args.store.now) middle new
      inv.run inv.session inv.above inv.others
      (subst (λ (table : List ℕ). PutsManifests table c.loop-rest.names middle new) c.as_str-table.ensures
      (puts_drawn 1 c.as_str-table.result.now c.loop-rest.names c.put_next.new.names middle new c.put_next.ensures.draws));
  told = c.put_next.ensures.moves.told ∙ c.loop-rest.invariant.told;
  kept = search rules;
  reads = search rules;
  faults = search rules;
}

pub returns-in_err-push-clause-kept : goal.returns-in_err-push-clause-kept
returns-in_err-push-clause-kept g c = λ name bytes there. c.in-Ok.ensures.moves.kept name bytes (c.loop-rest.invariant.kept name bytes there)
