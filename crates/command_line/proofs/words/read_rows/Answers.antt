use Rattle.std.proofs.Common.{◌∙◌, ap}
use Rattle.clap.specs.Words.{is_simple_and_free}
use Rattle.command_line.proofs.OptionLemmas.{simple_rows_app}
use Rattle.command_line.proofs.words.read_rows.Goals as goal

pub options_of-requires : goal.options_of-requires
options_of-requires c = ap is_simple_and_free c.in_ok-rows_command.ensures ∙ simple_rows_app
