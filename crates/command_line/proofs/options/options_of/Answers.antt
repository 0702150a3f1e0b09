use Rattle.clap.specs.Words.{app_of, found_of}
use Rattle.command_line.specs.Words.{texts}
use Rattle.command_line.proofs.OptionLemmas.{option_of-parsed}
use Rattle.command_line.proofs.options.options_of.Goals as goal

pub returns-in-Ok-clause-found : goal.returns-in-Ok-clause-found
returns-in-Ok-clause-found c name =
    option_of-parsed (app_of c.args.command) name (texts c.args.words.now) (found_of c.in-Ok.options) c.requires (c.in-Ok.ensures.kinds c.requires) c.in-Ok.ensures.matches
