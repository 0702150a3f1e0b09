-- Entries that a manifest holds whole, so that they are read again.
use Rattle.std.specs.Prelude.{ℕ, ◌^◌, ◌≤◌, ℤ, Bool, true, not, ◌&&◌, nat_lt, nat_eq, if◌then◌else◌, List, [], ◌∷◌, length, Option, Some, IsTrue}
use Rattle.std.specs.Ordering.{int_eq}
use Rattle.std.specs.List.{list_all, list_any}
use Rattle.plain_types.specs.Steps.{by_option}
use Rattle.row_values.specs.declared.kind.Kind.{Kind}
use Rattle.row_values.specs.declared.value.Value.{Value}
use Rattle.row_values.specs.declared.schema.TableSchema.{TableSchema}
use Rattle.row_values.specs.declared.partition.PartField.{PartField}
use Rattle.row_values.specs.declared.partition.Spec.{Spec}
use Rattle.row_values.specs.Rows.{is_value}
use Rattle.kind_values.specs.declared.stats.ColumnStats.{ColumnStats}
use Rattle.kind_values.specs.Bounds.{is_kind}
use Rattle.avro_binary.specs.SchemaOnce.{is_id}
use Rattle.manifest_files.specs.declared.entry.Entry.{Entry}
use Rattle.manifest_files.specs.declared.known_column.KnownColumn.{KnownColumn}
use Rattle.manifest_files.specs.declared.manifest_row.ManifestRow.{ManifestRow}
use Rattle.manifest_files.specs.Sound.{is_entry}
use Rattle.manifest_files.specs.Statistics.{known_columns}

-- ---- statistics

-- a count that a long holds, unless there is none
abbrev pub fits_count : Option ℕ → Bool
fits_count count = by_option count (λ n. nat_lt n (2 ^ 63)) true

abbrev pub has_counts : ColumnStats → Bool
has_counts facts = fits_count facts.values && fits_count facts.nulls

-- a value of the kind, unless there is none
abbrev pub is_of : Kind → Option Value → Bool
is_of k bound = by_option bound (is_value k) true

-- the bounds of this column are of its kind
abbrev pub is_bounded : KnownColumn → ColumnStats → Bool
is_bounded column facts = if int_eq column.id facts.id then is_of column.kind facts.lower && is_of column.kind facts.upper else true

abbrev pub is_known : List KnownColumn → ColumnStats → Bool
is_known known facts = list_any (λ column. int_eq column.id facts.id) known

-- of known columns, with bounds of their kinds
abbrev pub are_told : List KnownColumn → List ColumnStats → Bool
are_told known stats = list_all has_counts stats && (list_all (is_known known) stats && list_all (λ column. list_all (is_bounded column) stats) known)

-- ---- entries

-- an entry of the spec, whose counts longs hold
abbrev pub is_written : Spec → TableSchema → Entry → Bool
is_written spec schema entry = is_entry spec schema entry && (nat_lt entry.count (2 ^ 63) && (nat_lt entry.size (2 ^ 63) && are_told (known_columns schema.columns) entry.stats.columns))

-- ---- specs

abbrev pub has_field : ℤ → List PartField → Bool
has_field id parts = list_any (λ part. int_eq part.field id) parts

-- no two fields have one id
unfoldable pub are_apart : List PartField → Bool
are_apart [] = true
are_apart (part ∷ parts) = not (has_field part.field parts) && are_apart parts

-- at most 1,000 fields, each with an id of its own of 32 bits
pub record IsWritableSpec (spec : Spec) : Type 0 where
  pub few : length spec.fields ≤ 1000
  pub ids : IsTrue (list_all (λ part. is_id (Some part.field)) spec.fields)
  pub apart : IsTrue (are_apart spec.fields)

pub record CanBeWritten (entries : List Entry) (spec : Spec) (schema : TableSchema) : Type 0 where
  pub each : IsTrue (list_all (is_written spec schema) entries)
  pub kinds : IsTrue (list_all (λ column. is_kind column.kind) schema.columns)
  pub fields : IsWritableSpec spec

-- ---- what is read

-- an added entry has the sequence number of the manifest's row
abbrev pub as_read : ManifestRow → Entry → Entry
as_read row entry = if nat_eq entry.status 1 then record entry { seq = row.sequence_number; file_seq = row.sequence_number } else entry
