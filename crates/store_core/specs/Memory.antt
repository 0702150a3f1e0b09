-- A store that is a list of files in memory, with a plan of the calls that fail.
use Rattle.std.specs.Prelude.{ℕ, Bool, true, false, ◌&&◌, ◌==◌, if◌then◌else◌, Option, Some, None, List, [], ◌∷◌, map, take, length, ◌/◌}
use Rattle.std.specs.FinMap as finite
use Rattle.plain_types.specs.Causes.{bump}
use Rattle.store_core.specs.Files.{Files, with_file, swapped}
use Rattle.store_core.specs.declared.memory_store.File.{File}
use Rattle.store_core.specs.declared.memory_store.FailAt.{FailAt}
use Rattle.store_core.specs.declared.memory_store.CallKind.{CallKind}
use Rattle.store_core.specs.declared.memory_store.CallKind.TheVariants as kind
use Rattle.store_core.specs.declared.memory_store.Leave.{Leave}
use Rattle.store_core.specs.declared.memory_store.Leave.TheVariants.{Nothing, Half, Whole}
use Rattle.store_core.specs.declared.memory_store.Calls.{Calls}

abbrev pub pairs : List File → List (List ℕ × List ℕ)
pairs files = map (λ file. (file.name, file.bytes)) files

-- a list of files as a map; where a name stands twice the first counts
abbrev pub files_of : List File → Files
files_of files = finite.from_entries (pairs files)

abbrev pub same_kind : CallKind → CallKind → Bool
same_kind kind.List kind.List = true
same_kind kind.Read kind.Read = true
same_kind kind.Put kind.Put = true
same_kind kind.Swap kind.Swap = true
same_kind _ _ = false

-- how many calls of a kind
abbrev pub calls_of : CallKind → Calls → ℕ
calls_of kind.List calls = calls.lists
calls_of kind.Read calls = calls.reads
calls_of kind.Put calls = calls.puts
calls_of kind.Swap calls = calls.swaps

-- with one call more of a kind
abbrev pub counted : CallKind → Calls → Calls
counted kind.List calls = record calls { lists = bump calls.lists }
counted kind.Read calls = record calls { reads = bump calls.reads }
counted kind.Put calls = record calls { puts = bump calls.puts }
counted kind.Swap calls = record calls { swaps = bump calls.swaps }

-- what the nth call of a kind leaves, where the plan has it fail; the first entry that names it counts
abbrev pub planned : CallKind → ℕ → List FailAt → Option Leave
planned kind nth [] = None
planned kind nth (at ∷ plan) = if same_kind at.kind kind && (at.nth == nth) then Some at.leave else planned kind nth plan

-- a half has half of the bytes, rounded down
abbrev pub left_by_put : Leave → List ℕ → List ℕ → Files → Files
left_by_put Nothing name bytes files = files
left_by_put Half name bytes files = with_file name (take (length bytes / 2) bytes) files
left_by_put Whole name bytes files = with_file name bytes files

-- a swap leaves no half
abbrev pub left_by_swap : Leave → List ℕ → List ℕ → Files → Files
left_by_swap Nothing name bytes files = files
left_by_swap Half name bytes files = files
left_by_swap Whole name bytes files = swapped name bytes files
