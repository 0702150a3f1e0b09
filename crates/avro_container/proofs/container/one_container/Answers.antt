use Rattle.avro_container.proofs.FileLaws.{container_found, container_only}
use Rattle.avro_container.proofs.container.one_container.Goals as goal

pub returns : goal.returns
returns c = λ bytes schema meta datums. (container_only bytes schema meta datums, container_found bytes schema meta datums)
