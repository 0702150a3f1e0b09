-- What the added files of a change hold (Iceberg specification, "Manifest Entry Fields", `content`).
use Rattle.std.specs.Prelude.{not, IsTrue}
use Rattle.std.specs.List.{list_all}
use Rattle.table_state.specs.Live.{is_data}
use Rattle.change_sets.specs.declared.change.ChangeSet.{ChangeSet}

-- rows, and which rows are deleted
pub record HasContents (change : ChangeSet) : Type 0 where
  pub added_data : IsTrue (list_all is_data change.added_data)
  pub added_deletes : IsTrue (list_all (λ entry. not (is_data entry)) change.added_deletes)
