use Rattle.avro_binary.proofs.DatumLaws.{datum_law}
use Rattle.avro_binary.proofs.read.one_answer.Goals as goal

pub returns-clause-reads : goal.returns-clause-reads
returns-clause-reads c = λ s bytes d rest. ((datum_law s bytes).only d rest, (datum_law s bytes).found d rest)

pub returns-clause-fails : goal.returns-clause-fails
returns-clause-fails c = λ s bytes f. ((datum_law s bytes).first f, (datum_law s bytes).fault f)
