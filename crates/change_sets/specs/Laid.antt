-- A change laid on the live set of a branch (Iceberg specification, "Snapshots" and "Sequence Numbers"). The data sequence
-- number, by which deletes apply, and the number of the commit stand apart, since a rewritten file keeps the first.
use Rattle.std.specs.Prelude.{ℤ, not, List, ◌++◌, map, filter}
use Rattle.manifest_files.specs.declared.entry.Entry.{Entry}
use Rattle.table_state.specs.declared.live_set.LiveSet.{LiveSet}
use Rattle.change_sets.specs.declared.change.AddedAs.{AddedAs}
use Rattle.change_sets.specs.declared.change.ChangeSet.{ChangeSet}
use Rattle.change_sets.specs.Same.{is_among}

-- the entry of a file that a version adds
abbrev pub as_added : AddedAs → Entry → Entry
as_added numbers entry = record entry { status = 1; snapshot = numbers.snapshot; seq = numbers.seq; file_seq = numbers.file_seq }

-- of one that an earlier version added
abbrev pub as_kept : Entry → Entry
as_kept entry = record entry { status = 0 }

-- of one that a version removes
abbrev pub as_removed : ℤ → Entry → Entry
as_removed snapshot entry = record entry { status = 2; snapshot = snapshot }

-- the files less those that are removed
abbrev pub without : List Entry → List Entry → List Entry
without removed entries = filter (λ entry. not (is_among removed entry)) entries

-- the live set after the change
abbrev pub laid : AddedAs → LiveSet → ChangeSet → LiveSet
laid numbers head change = record { data_files = without change.removed head.data_files ++ map (as_added numbers) change.added_data; deletes = head.deletes ++ map (as_added numbers) change.added_deletes }
