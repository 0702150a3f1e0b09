-- What the words after the program's name ask for.
use Rattle.std.specs.Prelude.{ℕ, Bool, ◌&&◌, ◌==◌, nat_eq, nat_le, codes, List, [], ◌∷◌, length, Option, Some, None, option_map, option_and_then, map, if◌then◌else◌}
use Rattle.std.specs.Borrow.{Bor}
use Rattle.command_line.specs.declared.words.Command.{Command}
use Rattle.command_line.specs.declared.words.Command.TheVariants.{Rows, Create, Run}
use Rattle.std.specs.Cmp.Lexicographic.{pointwise}
use Rattle.clap.specs.Words.{App, fault_of, matches_of}
use Rattle.clap.specs.Walk.{first_of}
use Rattle.plain_types.specs.Paths.{is_path}
use Rattle.command_line.specs.Options.{rows_app, create_app, run_app}

-- what the words say
abbrev pub texts : List (Bor (List ℕ)) → List (List ℕ)
texts words = map (λ word. word.now) words

-- a command with its options
pub data Wanted : Type 0 where
  rows : List ℕ → Wanted
  create : List ℕ → List ℕ → Wanted
  run : List ℕ → List ℕ → Wanted

abbrev pub wanted : Command → Wanted
wanted (Rows table) = rows table.now
wanted (Create table schema) = create table.now schema.now
wanted (Run table script) = run table.now script.now

-- the name of a table's folder, which is a path below the working folder of at most 4,096 bytes
abbrev pub is_table : List ℕ → Bool
is_table name = nat_le (length name) 4096 && is_path name

-- the value of an option, where the words are in the form of the command
abbrev pub option_of : App → List ℕ → List (List ℕ) → Option (List ℕ)
option_of app name words = if length (fault_of app words) == 0 then first_of name (matches_of app words) else None

-- a table, where the value of its option is in form
abbrev pub table_named : Option (List ℕ) → Option (List ℕ)
table_named value = option_and_then (λ table. if is_table table then Some table else None) value

abbrev pub table_of : App → List (List ℕ) → Option (List ℕ)
table_of app words = table_named (option_of app (codes "table") words)

abbrev pub rows_of : List (List ℕ) → Option Wanted
rows_of words = option_map rows (table_of rows_app words)

-- a table and a file, where both options have a value and the table's is in form
abbrev pub both_named : Option (List ℕ) → Option (List ℕ) → Option (List ℕ × List ℕ)
both_named table file = option_and_then (λ t. option_map (λ f. (t, f)) file) (table_named table)

abbrev pub both_of : App → List ℕ → List (List ℕ) → Option (List ℕ × List ℕ)
both_of app file words = both_named (option_of app (codes "table") words) (option_of app file words)

abbrev pub create_of : List (List ℕ) → Option Wanted
create_of words = option_map (λ both. create both.0 both.1) (both_of create_app (codes "schema") words)

abbrev pub run_of : List (List ℕ) → Option Wanted
run_of words = option_map (λ both. run both.0 both.1) (both_of run_app (codes "script") words)

abbrev pub is_word : List ℕ → List ℕ → Bool
is_word name word = pointwise nat_eq name word

-- The first word is the command, and the others are its options.
unfoldable pub command_of : List (List ℕ) → Option Wanted
command_of [] = None
command_of (name ∷ options) =
    if is_word name (codes "rows") then rows_of (name ∷ options)
    else (if is_word name (codes "create") then create_of (name ∷ options) else (if is_word name (codes "run") then run_of (name ∷ options) else None))
