-- What is left of the rows of a branch by the decisions of a statement (Iceberg specification, "Row-level deletes"): a row
-- that is removed or replaced is not copied. A row that is not hit, or has no decision, stays.
use Rattle.std.specs.Prelude.{ℕ, suc, Bool, true, false, if◌then◌else◌, List, [], ◌∷◌, ◌++◌, drop, take, Option, Some, None, slice_get}
use Rattle.std.specs.List.{flat_map, list_any}
use Rattle.row_values.specs.declared.value.Value.{Value}
use Rattle.manifest_files.specs.declared.entry.Entry.{Entry}
use Rattle.change_sets.specs.declared.scanned.Decision.{Decision}
use Rattle.change_sets.specs.declared.scanned.Decision.TheVariants.{Keep, Remove, Replace}
use Rattle.change_sets.specs.declared.scanned.Decisions.{Decisions}
use Rattle.change_sets.specs.declared.scanned.LiveRow.{LiveRow}
use Rattle.change_sets.specs.declared.scanned.ScannedFile.{ScannedFile}

-- ---- one row

abbrev pub touches : Decision → Bool
touches Keep = false
touches Remove = true
touches (Replace row) = true

-- some row is removed or replaced
abbrev pub is_touched : List Decision → Bool
is_touched decisions = list_any touches decisions

abbrev pub left_by : Option Decision → List Value → List (List Value)
left_by None row = row ∷ []
left_by (Some Keep) row = row ∷ []
left_by (Some Remove) row = []
left_by (Some (Replace new)) row = new ∷ []

abbrev pub made_by : Decision → List (List Value)
made_by Keep = []
made_by Remove = []
made_by (Replace new) = new ∷ []

-- the rows that the statement makes
abbrev pub made_of : Decisions → List (List Value)
made_of decisions = flat_map made_by decisions.rows ++ decisions.inserted

-- ---- the rows of a file, of which each that is hit takes the next decision

abbrev pub decision_of : LiveRow → List Decision → Option Decision
decision_of live decisions = if live.hit then slice_get decisions 0 else None

abbrev pub decisions_after : LiveRow → List Decision → List Decision
decisions_after live decisions = if live.hit then drop 1 decisions else decisions

unfoldable pub rows_left : List LiveRow → List Decision → List (List Value)
rows_left [] decisions = []
rows_left (live ∷ rows) decisions = left_by (decision_of live decisions) live.row ++ rows_left rows (decisions_after live decisions)

-- how many rows are hit
unfoldable pub hits : List LiveRow → ℕ
hits [] = 0
hits (row ∷ rows) = if row.hit then suc (hits rows) else hits rows

-- ---- the files

-- the decisions of a file's rows, and those of the files behind it
abbrev pub own_of : ScannedFile → List Decision → List Decision
own_of file decisions = take (hits file.rows) decisions

abbrev pub later_of : ScannedFile → List Decision → List Decision
later_of file decisions = drop (hits file.rows) decisions

-- the files of which a row is removed or replaced
unfoldable pub removed_of : List ScannedFile → List Decision → List Entry
removed_of [] decisions = []
removed_of (file ∷ files) decisions =
    if is_touched (own_of file decisions) then file.entry ∷ removed_of files (later_of file decisions) else removed_of files (later_of file decisions)

-- what is left of their rows
unfoldable pub copied_of : List ScannedFile → List Decision → List (List Value)
copied_of [] decisions = []
copied_of (file ∷ files) decisions =
    if is_touched (own_of file decisions) then rows_left file.rows (own_of file decisions) ++ copied_of files (later_of file decisions) else copied_of files (later_of file decisions)

-- the rows that are written: those that are left of the files that are removed, and then those that are inserted
abbrev pub written_of : List ScannedFile → Decisions → List (List Value)
written_of scanned decisions = copied_of scanned decisions.rows ++ decisions.inserted
