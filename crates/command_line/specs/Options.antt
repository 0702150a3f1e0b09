-- The options of each command, as clap reads them: each at most once, with one value, and neither help nor version.
use Rattle.std.specs.Prelude.{ℕ, codes, List, Some, true}
use Rattle.clap.specs.Words.{App, Rule, new_app, new_rule, with_rule}
use Rattle.clap.specs.Simple.{on_top}
use Rattle.clap.specs.declared.builder.action.ArgAction.TheVariants.{Set}

-- a command that only reads its options
abbrev pub plain_app : List ℕ → App
plain_app name = on_top (λ s. record s { disable_help_flag = true; disable_version_flag = true }) (new_app name)

-- an option that the command needs
abbrev pub needed : List ℕ → Rule
needed name = record (new_rule name) { long = Some name; action = Some Set; required = true }

-- rows --table T
unfoldable pub rows_app : App
rows_app = with_rule (plain_app (codes "rows")) (needed (codes "table"))

-- a command of a table and a file
abbrev pub file_app : List ℕ → List ℕ → App
file_app name file = with_rule (with_rule (plain_app name) (needed (codes "table"))) (needed file)

-- create --table T --schema F
unfoldable pub create_app : App
create_app = file_app (codes "create") (codes "schema")

-- run --table T --script F
unfoldable pub run_app : App
run_app = file_app (codes "run") (codes "script")
