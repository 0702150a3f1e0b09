use Rattle.kind_values.proofs.Fewest.{fewest}
use Rattle.kind_values.proofs.byte_laws.written_bytes_are_the_fewest.Goals as goal

pub returns : goal.returns
returns c = fewest
