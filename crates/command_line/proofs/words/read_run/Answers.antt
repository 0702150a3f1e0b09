use Rattle.std.proofs.Common.{ℕ, List, ◌∙◌, ap, codes, option_map}
use Rattle.clap.specs.Words.{is_simple_and_free, app_of, found_of}
use Rattle.command_line.specs.Options.{run_app}
use Rattle.command_line.specs.Words.{run, texts}
use Rattle.command_line.proofs.OptionLemmas.{simple_run_app, both_found}
use Rattle.command_line.proofs.words.read_run.Goals as goal

pub options_of-requires : goal.options_of-requires
options_of-requires c = ap is_simple_and_free c.in_ok-run_command.ensures ∙ simple_run_app

pub returns-in-Ok-clause-found : goal.returns-in-Ok-clause-found
returns-in-Ok-clause-found c =
    ap (option_map (λ (both : List ℕ × List ℕ). run both.0 both.1))
    (both_found (app_of c.in_ok-run_command.field-0) run_app (codes "script") (texts c.args.words.now) (found_of c.in_ok-options.options) c.in_ok-run_command.ensures c.in_ok-options.ensures.found ∙ c.in-Ok.ensures.found)

pub returns-clause-usage : goal.returns-clause-usage
returns-clause-usage c = λ fault.
    ap (option_map (λ (both : List ℕ × List ℕ). run both.0 both.1))
    (both_found (app_of c.in_ok-run_command.field-0) run_app (codes "script") (texts c.args.words.now) (found_of c.in_ok-options.options) c.in_ok-run_command.ensures c.in_ok-options.ensures.found ∙ c.in-Err.ensures.usage cc)
