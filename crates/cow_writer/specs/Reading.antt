-- When the rows of new data files are read again.
use Rattle.std.specs.Prelude.{◌≡◌, ◌≤◌, ◌<◌, ◌+◌, ◌^◌, ◌==◌, ℕ, Bool, true, not, List, length, Ok}
use Rattle.std.specs.List.{AllByRecursion, list_all}
use Rattle.std.specs.Str.{IsUtf8}
use Rattle.row_values.specs.declared.schema.Column.{Column}
use Rattle.row_values.specs.declared.schema.TableSchema.{TableSchema}
use Rattle.row_values.specs.declared.value.Value.{Value}
use Rattle.table_names.specs.declared.names.Names.{Names}
use Rattle.row_writer.specs.Readable.{AreColumns}
use Rattle.row_writer.specs.RowsText.{rows_text}
use Rattle.table_metadata.specs.Metadata.{parts}
use Rattle.table_state.specs.Files.{current_schema}
use Rattle.table_state.specs.declared.state.State.{State}

-- A session's name is one part of a path.
abbrev pub has_no_slash : List ℕ → Bool
has_no_slash name = list_all (λ b. not (b == 47)) name

-- no file is too long to be read again
abbrev pub AreShort : List Column → List (List (List Value)) → Type 0
AreShort columns pieces = AllByRecursion (λ rows. length (rows_text columns rows) < 2 ^ 63) pieces

-- The columns are those of a table, the names are of the table's folder, and no file is too long.
pub record CanBeRead (state : State) (names : Names) (pieces : List (List (List Value))) : Type 0 where
  pub schema : TableSchema
  pub current : current_schema (parts state.metadata) ≡ Ok schema
  pub columns : AreColumns schema.columns
  pub plain : has_no_slash names.session ≡ true
  pub text : IsUtf8 names.session
  pub run : names.run < 2 ^ 64
  pub room : names.next + length pieces ≤ 2 ^ 128
  pub sizes : AreShort schema.columns pieces
