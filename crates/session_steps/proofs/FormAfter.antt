-- A table of the form keeps it when a snapshot is put on `main`.
use Rattle.std.proofs.Common.{◌≡◌, ℤ, Bool, true, ◌&&◌, List, [], ◌∷◌, codes, refl, Ordering, Less, Equal, Greater}
use Rattle.std.specs.List.{list_all}
use Rattle.std.specs.Ordering.{match_ordering, nat_cmp}
use Rattle.std.specs.Cmp.Lexicographic.{slice_cmp}
use Rattle.commit_manifests.proofs.CallerLemmas.{both, first, second}
use Rattle.metadata_writer.specs.PartsAfter.{branch_at, parts_after, with_ref}
use Rattle.table_state.specs.Form.{schema_in_form, table_in_form, writing_in_form, is_unpartitioned}
use Rattle.table_metadata.specs.declared.references.RefItem.{RefItem}
use Rattle.table_metadata.specs.declared.snapshots.Snapshot.{Snapshot}
use Rattle.table_metadata.specs.Metadata.{Parts}
use Rattle.table_metadata.specs.References.{is_main}

by_order : (p : RefItem → Bool) (o : Ordering) (less equal greater : List RefItem) → list_all p less ≡ true
    → list_all p equal ≡ true → list_all p greater ≡ true → list_all p (match_ordering o less equal greater) ≡ true
by_order p Less less equal greater h k l = h
by_order p Equal less equal greater h k l = k
by_order p Greater less equal greater h k l = l

refs_are_main : (r : RefItem) (refs : List RefItem) → is_main r ≡ true → list_all is_main refs ≡ true → list_all is_main (with_ref r refs) ≡ true
unfolding with_ref
refs_are_main r [] own all = both (is_main r) true own refl
refs_are_main r (x ∷ xs) own all =
    let rest : list_all is_main xs ≡ true = second (is_main x) (list_all is_main xs) all in
    by_order is_main (slice_cmp nat_cmp r.name x.name) (r ∷ x ∷ xs) (r ∷ xs) (x ∷ with_ref r xs)
    (both (is_main r) (list_all is_main (x ∷ xs)) own all)
    (both (is_main r) (list_all is_main xs) own rest)
    (both (is_main x) (list_all is_main (with_ref r xs)) (first (is_main x) (list_all is_main xs) all) (refs_are_main r xs own rest))

module _ (snapshot : Snapshot) (now : ℤ) (p : Parts) where
  abbrev schemas : Bool
  schemas = list_all (schema_in_form p.current_schema) p.schemas

  abbrev specs : Bool
  specs = list_all is_unpartitioned p.specs

  abbrev writing : Bool
  writing = writing_in_form p.properties

  abbrev next_refs : List RefItem
  next_refs = with_ref (branch_at (codes "main") snapshot.id) p.refs

  pub form_after : table_in_form p ≡ true → table_in_form (parts_after (codes "main") snapshot now p) ≡ true
  form_after form =
      let without_schemas : (specs && (writing && list_all is_main p.refs)) ≡ true = second schemas (specs && (writing && list_all is_main p.refs)) form in
      let without_specs : (writing && list_all is_main p.refs) ≡ true = second specs (writing && list_all is_main p.refs) without_schemas in
      both schemas (specs && (writing && list_all is_main next_refs)) (first schemas (specs && (writing && list_all is_main p.refs)) form)
      (both specs (writing && list_all is_main next_refs) (first specs (writing && list_all is_main p.refs) without_schemas)
      (both writing (list_all is_main next_refs) (first writing (list_all is_main p.refs) without_specs)
      (refs_are_main (branch_at (codes "main") snapshot.id) p.refs refl (second writing (list_all is_main p.refs) without_specs))))
