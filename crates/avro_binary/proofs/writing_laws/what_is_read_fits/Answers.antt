use Rattle.avro_binary.proofs.FittingLaws.{read_fits}
use Rattle.avro_binary.proofs.writing_laws.what_is_read_fits.Goals as goal

pub returns : goal.returns
returns c = λ s bytes d rest h. read_fits s bytes d rest h
