use Rattle.avro_binary.proofs.ShortestLaws.{groups_are, groups_shortest, fits_limit}
use Rattle.avro_binary.proofs.writing_laws.numbers_are_spelled_shortest.Goals as goal

pub returns-clause-spells : goal.returns-clause-spells
returns-clause-spells c = λ n lt. groups_are 9 n (fits_limit n lt)

pub returns-clause-shortest : goal.returns-clause-shortest
returns-clause-shortest c = λ n spelling is. groups_shortest 9 n spelling is
