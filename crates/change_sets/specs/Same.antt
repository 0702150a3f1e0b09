-- Entries of one file (Iceberg specification, "Manifests"): all but their status agrees.
use Rattle.std.specs.Prelude.{ℕ, pos, Bool, true, false, if◌then◌else◌, List, [], ◌∷◌}
use Rattle.manifest_files.specs.declared.entry.Content.TheVariants as content
use Rattle.manifest_files.specs.declared.entry.Entry.{Entry}
use Rattle.manifest_files.specs.contracts.entry.EntryPartialEq.TheImpl as entries

-- the entry under another status
abbrev pub with_status : ℕ → Entry → Entry
with_status status entry = record entry { status = status }

abbrev pub same_file : Entry → Entry → Bool
same_file one other = entries.ghosts.eq (with_status 0 one) (with_status 0 other)

-- the entry without what the snapshots of the table say of its file
abbrev pub file_alone : Entry → Entry
file_alone entry = record entry { snapshot = pos 0; seq = pos 0; file_seq = pos 0 }

-- and without what it is and where
abbrev pub amounts_alone : Entry → Entry
amounts_alone entry = record (file_alone entry) { content = content.Data; path = []; spec = pos 0; partition = [] }

unfoldable pub is_among : List Entry → Entry → Bool
is_among [] entry = false
is_among (one ∷ entries) entry = if same_file one entry then true else is_among entries entry
