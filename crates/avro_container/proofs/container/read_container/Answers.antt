use Rattle.avro_container.proofs.Answered.{is_found, is_only}
use Rattle.avro_container.proofs.container.read_container.Goals as goal

pub returns-clause-found : goal.returns-clause-found
returns-clause-found c = is_found c.args.bytes.now c.container_of.result c.container_of.ensures

pub returns-clause-only : goal.returns-clause-only
returns-clause-only c = is_only c.args.bytes.now c.container_of.result c.container_of.ensures
