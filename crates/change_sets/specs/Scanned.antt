-- The rows of data files that were scanned.
use Rattle.std.specs.Prelude.{List, map}
use Rattle.std.specs.List.{flat_map}
use Rattle.row_values.specs.declared.value.Value.{Value}
use Rattle.manifest_files.specs.declared.entry.Entry.{Entry}
use Rattle.change_sets.specs.declared.scanned.LiveRow.{LiveRow}
use Rattle.change_sets.specs.declared.scanned.ScannedFile.{ScannedFile}

abbrev pub entry_of : ScannedFile → Entry
entry_of file = file.entry

abbrev pub row_of : LiveRow → List Value
row_of live = live.row

abbrev pub rows_in : ScannedFile → List (List Value)
rows_in file = map row_of file.rows

abbrev pub rows_in_all : List ScannedFile → List (List Value)
rows_in_all files = flat_map rows_in files
