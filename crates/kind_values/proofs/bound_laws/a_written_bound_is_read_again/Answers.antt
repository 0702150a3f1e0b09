use Rattle.kind_values.proofs.BoundLaws.{bound_again}
use Rattle.kind_values.proofs.bound_laws.a_written_bound_is_read_again.Goals as goal

pub returns : goal.returns
returns c = bound_again
