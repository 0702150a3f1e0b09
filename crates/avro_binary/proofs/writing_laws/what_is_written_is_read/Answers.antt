use Rattle.avro_binary.proofs.SpellingLaws.{datum_again, datum_read_again}
use Rattle.avro_binary.proofs.writing_laws.what_is_written_is_read.Goals as goal

pub returns-clause-reading : goal.returns-clause-reading
returns-clause-reading c = λ s d rest room fit short. datum_read_again s d rest room fit short

pub returns-clause-grammar : goal.returns-clause-grammar
returns-clause-grammar c = λ s d rest room fit short. datum_again s room d rest fit short
