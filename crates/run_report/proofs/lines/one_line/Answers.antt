use Rattle.std.proofs.Common.{◌∙◌}
use Rattle.run_report.proofs.Escaping.{replaced}
use Rattle.run_report.proofs.lines.one_line.Goals as goal

pub returns : goal.returns
returns c = c.from_string.ensures ∙ replaced _ _ _ c.in_ok-replace.ensures.ok.1
