-- What is read of a table's metadata after a snapshot is put on a branch (Iceberg specification, "Table Metadata Fields",
-- "Snapshots" and "Snapshot References").
use Rattle.std.specs.Prelude.{◌≡◌, ◌++◌, ◌∷◌, ℕ, ℤ, pos, neg_ℤ, List, [], Option, Some, false, if◌then◌else◌}
use Rattle.std.specs.Cmp.Lexicographic.{slice_cmp}
use Rattle.std.specs.Int.{int_max}
use Rattle.std.specs.Ordering.{int_eq, match_ordering, nat_cmp}
use Rattle.table_metadata.specs.declared.references.RefItem.{RefItem}
use Rattle.table_metadata.specs.declared.snapshots.Snapshot.{Snapshot}
use Rattle.table_metadata.specs.Metadata.{Parts}
use Rattle.table_metadata.specs.References.{has_snapshot, is_main_name}
use Rattle.metadata_writer.specs.Fitting.{Fits}
use Rattle.iceberg_schema.specs.Widths.{IsLong}

-- the refs, and this one at its place by its name's bytes, instead of the one that had its name
unfoldable pub with_ref : RefItem → List RefItem → List RefItem
with_ref r [] = r ∷ []
with_ref r (x ∷ xs) = match_ordering (slice_cmp nat_cmp r.name x.name) (r ∷ x ∷ xs) (r ∷ xs) (x ∷ with_ref r xs)

abbrev pub branch_at : List ℕ → ℤ → RefItem
branch_at branch id = record { name = branch; snapshot = id; tag = false }

-- The head of `main` is the current snapshot.
abbrev pub current_after : List ℕ → ℤ → Option ℤ → Option ℤ
current_after branch id current = if is_main_name branch then Some id else current

abbrev pub parts_after : List ℕ → Snapshot → ℤ → Parts → Parts
parts_after branch s now p = record {
  format_version = p.format_version;
  location = p.location;
  last_sequence = s.seq;
  last_updated_ms = int_max now p.last_updated_ms;
  last_column = p.last_column;
  schemas = p.schemas;
  current_schema = p.current_schema;
  specs = p.specs;
  default_spec = p.default_spec;
  last_partition = p.last_partition;
  properties = p.properties;
  current_snapshot = current_after branch s.id p.current_snapshot;
  snapshots = p.snapshots ++ s ∷ [];
  refs = with_ref (branch_at branch s.id) p.refs;
}

-- The snapshot is a new one, its numbers fit their keys, and so does the time of the change.
pub record CanFollow (s : Snapshot) (now : ℤ) (p : Parts) : Type 0 where
  pub fits : Fits s
  pub told : int_eq s.id (neg_ℤ (pos 1)) ≡ false
  pub new : has_snapshot s.id p.snapshots ≡ false
  pub time : IsLong (int_max now p.last_updated_ms)
