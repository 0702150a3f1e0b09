-- The tables that are read so far: of format version 2, with columns of `long` and `string` in the current schema, specs
-- without fields, every property of writes at its default, no ref but `main`, and within the limits; with data files
-- alone.
use Rattle.std.specs.Prelude.{ℕ, ℤ, pos, ◌^◌, Bool, true, false, not, ◌&&◌, ◌==◌, nat_lt, nat_le, int_lt, length, if◌then◌else◌}
use Rattle.std.specs.List.{list_all}
use Rattle.std.specs.Ordering.{int_eq}
use Rattle.row_values.specs.declared.kind.Kind.{Kind}
use Rattle.row_values.specs.declared.kind.Kind.TheVariants as kind
use Rattle.row_values.specs.declared.schema.TableSchema.{TableSchema}
use Rattle.row_values.specs.declared.schema.Column.{Column}
use Rattle.row_values.specs.declared.partition.Spec.{Spec}
use Rattle.manifest_files.specs.declared.manifest_row.ManifestContent.{ManifestContent}
use Rattle.manifest_files.specs.declared.manifest_row.ManifestContent.TheVariants as content
use Rattle.manifest_files.specs.declared.manifest_row.ManifestRow.{ManifestRow}
use Rattle.table_metadata.specs.Metadata.{Parts}
use Rattle.table_metadata.specs.declared.properties.Properties.{Properties}
use Rattle.table_metadata.specs.declared.properties.WriteMode.{WriteMode}
use Rattle.table_metadata.specs.References.{is_main}

abbrev pub kind_in_form : Kind → Bool
kind_in_form kind.Long = true
kind_in_form kind.Text = true
kind_in_form _ = false

abbrev pub column_in_form : Column → Bool
column_in_form column = kind_in_form column.kind

-- the schema has plain columns, where it is the current one
abbrev pub schema_in_form : ℤ → TableSchema → Bool
schema_in_form current schema = if int_eq schema.id current then list_all column_in_form schema.columns else true

abbrev pub is_unpartitioned : Spec → Bool
is_unpartitioned spec = length spec.fields == 0

-- copy-on-write, at the serializable level
abbrev pub mode_in_form : WriteMode → Bool
mode_in_form mode = not mode.on_read && not mode.snapshot_level

abbrev pub writing_in_form : Properties → Bool
writing_in_form p = mode_in_form p.delete && mode_in_form p.update && mode_in_form p.merge && p.retries == 4 && p.least_to_merge == 100 && p.merge_enabled

-- the version, its sequence number and the length of its location
abbrev pub is_within_limits : ℕ → Parts → Bool
is_within_limits version p = nat_lt version (2 ^ 31) && int_lt p.last_sequence (pos (2 ^ 62)) && nat_le (length p.location) 4096

-- what a commit leaves as it is
abbrev pub table_in_form : Parts → Bool
table_in_form p = list_all (schema_in_form p.current_schema) p.schemas && (list_all is_unpartitioned p.specs && (writing_in_form p.properties && list_all is_main p.refs))

abbrev pub has_form : ℕ → Parts → Bool
has_form version p = is_within_limits version p && table_in_form p

-- ---- manifests

abbrev pub is_data_manifest_content : ManifestContent → Bool
is_data_manifest_content content.Data = true
is_data_manifest_content content.Deletes = false

abbrev pub is_data_manifest : ManifestRow → Bool
is_data_manifest row = is_data_manifest_content row.content
