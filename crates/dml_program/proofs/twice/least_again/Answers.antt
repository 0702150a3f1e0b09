use Rattle.std.proofs.Common.{◌∙◌}
use Rattle.dml_program.proofs.TwiceLaws.{first_pair-from_sort}
use Rattle.dml_program.proofs.twice.least_again.Goals as goal

pub returns : goal.returns
returns c = c.first_pair.ensures ∙ first_pair-from_sort c.args.paths.now c.sort_unstable.new.self c.sort_unstable.ensures.permutation c.sort_unstable.ensures.sorted c.one_list_in_byte_order.ensures.only
