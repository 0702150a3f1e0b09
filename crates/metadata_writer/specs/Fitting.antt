-- A snapshot whose numbers have the widths of their keys.
use Rattle.std.specs.Prelude.{◌≡◌, ℤ, Some}
use Rattle.table_metadata.specs.declared.snapshots.Snapshot.{Snapshot}
use Rattle.iceberg_schema.specs.Widths.{IsInt, IsLong}

pub record Fits (s : Snapshot) : Type 0 where
  pub id : IsLong s.id
  pub number : IsLong s.seq
  pub time : IsLong s.timestamp_ms
  pub parent : (n : ℤ) → s.parent ≡ Some n → IsLong n
  pub schema : (n : ℤ) → s.schema ≡ Some n → IsLong n
  pub schema_int : (n : ℤ) → s.schema ≡ Some n → IsInt n
