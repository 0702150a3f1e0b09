-- The value of an option, from what clap says of its matches.
use Rattle.std.proofs.Common.{◌≡◌, ℕ, Bool, true, false, ◌&&◌, refl, ◌==◌, List, [], length, None, Option, cond, sym, ap, subst, ◌∙◌, codes}
use Rattle.clap.specs.Words.{App, Kinds, fault_of, matches_of, first_value, rows_of, is_simple, is_simple_and_free, built}
use Rattle.clap.specs.Faults.{is_free_app}
use Rattle.clap.specs.Walk.{first_of}
use Rattle.clap.specs.declared.parser.matches.Found.{Found}
use Rattle.clap.proofs.WalkLemmas.{first_value-rows}
use Rattle.clap.proofs.OnLiterals.{clap_on_literals}
use Rattle.command_line.specs.Options.{rows_app, create_app, run_app}
use Rattle.command_line.specs.Words.{both_named, both_of, option_of}

-- where clap takes the words, an option has the value that it found
pub option_of-found : (app : App) (name : List ℕ) (words : List (List ℕ)) (found : Found) → fault_of app words ≡ []
    → rows_of found ≡ matches_of app words → option_of app name words ≡ first_value found name
option_of-found app name words found takes rows =
    subst (λ (faults : Kinds). cond (length faults == 0) (first_of name (matches_of app words)) None ≡ first_value found name) (sym takes)
    (ap (first_of name) (sym rows) ∙ sym (first_value-rows found name))

first_true : (a b : Bool) → a && b ≡ true → a ≡ true
first_true true b both = refl
first_true false b both = both

-- the same, from the clauses of a parse that succeeds
pub option_of-parsed : (app : App) (name : List ℕ) (words : List (List ℕ)) (found : Found) {Sub : Type 0}
    → is_simple_and_free app ≡ true → fault_of app words ≡ []
    → (is_simple app ≡ true → (rows_of found ≡ matches_of app words) × Sub) → option_of app name words ≡ first_value found name
option_of-parsed app name words found simple takes rows =
    option_of-found app name words found takes (rows (first_true (is_simple app) (is_free_app (built app)) simple)).0

-- the options of `rows` are read as clap reads a simple command's
pub simple_rows_app : is_simple_and_free rows_app ≡ true
unfolding rows_app clap_on_literals
simple_rows_app = refl

-- and those of `create`
pub simple_create_app : is_simple_and_free create_app ≡ true
unfolding create_app clap_on_literals
simple_create_app = refl

-- and those of `run`
pub simple_run_app : is_simple_and_free run_app ≡ true
unfolding run_app clap_on_literals
simple_run_app = refl

-- a table and a file that the options of a command name
pub both_found : (app wanted : App) (file : List ℕ) (words : List (List ℕ)) (found : Found) → app ≡ wanted
    → ((name : List ℕ) → option_of app name words ≡ first_value found name)
    → both_of wanted file words ≡ both_named (first_value found (codes "table")) (first_value found file)
both_found app wanted file words found is has =
    ap (λ (a : App). both_of a file words) (sym is) ∙ ap (λ (t : Option (List ℕ)). both_named t (option_of app file words)) (has (codes "table")) ∙ ap (both_named (first_value found (codes "table"))) (has file)
