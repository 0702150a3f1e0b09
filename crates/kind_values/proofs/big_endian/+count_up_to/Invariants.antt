use Rattle.kind_values.proofs.big_endian.+count_up_to.Given as goal

abbrev pub decreases-count_up_to : goal.decreases-count_up_to
decreases-count_up_to l = l.more
