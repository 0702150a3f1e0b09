-- The change of a copy-on-write statement (Iceberg specification, "Snapshots" and "Manifests"): data files of which a row is
-- removed or replaced are removed, and new ones have their other rows, the replacements and the inserted rows.
use Rattle.std.specs.Prelude.{ℕ, ◌+◌, pos, List, [], ◌∷◌, map, length, None}
use Rattle.plain_types.specs.Steps.{by_option}
use Rattle.row_values.specs.declared.schema.Column.{Column}
use Rattle.row_values.specs.declared.schema.TableSchema.{TableSchema}
use Rattle.row_values.specs.declared.value.Value.{Value}
use Rattle.kind_values.specs.declared.stats.Stats.{Stats}
use Rattle.sql_predicates.specs.declared.pred.Pred.{Pred}
use Rattle.store_core.specs.Files.{Files, with_file}
use Rattle.table_names.specs.declared.names.Names.{Names}
use Rattle.table_names.specs.FileNames.{data_name}
use Rattle.manifest_files.specs.declared.entry.Content.TheVariants as content
use Rattle.manifest_files.specs.declared.entry.Entry.{Entry}
use Rattle.row_writer.specs.RowsText.{rows_text}
use Rattle.table_metadata.specs.declared.metadata.Metadata.{Metadata}
use Rattle.table_metadata.specs.ById.{schema_with}
use Rattle.table_names.specs.Paths.{folder_of}
use Rattle.table_state.specs.declared.state.State.{State}
use Rattle.change_sets.specs.declared.change.ChangeSet.{ChangeSet}
use Rattle.change_sets.specs.declared.scanned.Decisions.{Decisions}
use Rattle.change_sets.specs.declared.scanned.ScannedFile.{ScannedFile}
use Rattle.change_sets.specs.Deciding.{removed_of, written_of}
use Rattle.change_sets.specs.Scanned.{entry_of}
use Rattle.cow_writer.specs.Pieces.{pieces_of}

-- the current schema, which all metadata has
abbrev pub schema_of : Metadata → TableSchema
schema_of metadata = by_option (schema_with metadata.current_schema metadata.schemas) (λ schema. schema) (record { id = metadata.current_schema; columns = [] })

-- ---- names

-- the names behind so many that are drawn
abbrev pub behind : ℕ → Names → Names
behind count names = record names { next = names.next + count }

-- where the next file is put, and the path that the table knows it by
abbrev pub next_name : List ℕ → Names → List ℕ
next_name folder names = data_name folder names.run names.session names.next

-- ---- the files

-- what is known of the columns of a file with these rows: nothing yet
abbrev pub stats_of : List Column → List (List Value) → Stats
stats_of columns rows = record { columns = [] }

-- The entry of a file with these rows. A commit gives it its numbers.
abbrev pub entry_at : Metadata → Names → List (List Value) → Entry
entry_at metadata names rows = record {
  status = 1;
  snapshot = pos 0;
  seq = pos 0;
  file_seq = pos 0;
  content = content.Data;
  path = next_name (folder_of metadata.location) names;
  spec = metadata.default_spec;
  partition = [];
  count = length rows;
  size = length (rows_text (schema_of metadata).columns rows);
  stats = stats_of (schema_of metadata).columns rows;
  equality_ids = [];
  referenced = None;
}

-- the entries of files with these rows, which are put under the next names
unfoldable pub entries_from : Metadata → Names → List (List (List Value)) → List Entry
entries_from metadata names [] = []
entries_from metadata names (rows ∷ pieces) = entry_at metadata names rows ∷ entries_from metadata (behind 1 names) pieces

-- and the files, with these
unfoldable pub files_from : List Column → List ℕ → Names → Files → List (List (List Value)) → Files
files_from columns table names files [] = files
files_from columns table names files (rows ∷ pieces) = files_from columns table (behind 1 names) (with_file (next_name table names) (rows_text columns rows) files) pieces

-- ---- the change

-- the rows of each new file
abbrev pub pieces_in : State → List ScannedFile → Decisions → List (List (List Value))
pieces_in state scanned decisions = pieces_of (schema_of state.metadata).columns (written_of scanned decisions)

abbrev pub change_of : State → List ScannedFile → Decisions → Pred → Names → ChangeSet
change_of state scanned decisions pred names = record {
  removed = removed_of scanned decisions.rows;
  added_data = entries_from state.metadata names (pieces_in state scanned decisions);
  added_deletes = [];
  filter = pred;
  depended = map entry_of scanned;
}

-- the files, with the new ones
abbrev pub files_after : State → List ScannedFile → Decisions → Names → Files → Files
files_after state scanned decisions names files = files_from (schema_of state.metadata).columns state.table names files (pieces_in state scanned decisions)
