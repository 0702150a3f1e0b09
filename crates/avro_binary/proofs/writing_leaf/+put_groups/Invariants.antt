use Rattle.std.proofs.Common.{}
use Rattle.avro_binary.proofs.writing_leaf.+put_groups.Given as goal

abbrev pub decreases-put_groups : goal.decreases-put_groups
decreases-put_groups l = l.more
