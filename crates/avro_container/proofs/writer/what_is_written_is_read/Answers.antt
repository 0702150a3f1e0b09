use Rattle.avro_binary.proofs.CallerLemmas.{read_text_again, schema_read}
use Rattle.avro_container.proofs.TextLaws.{text_read_again}
use Rattle.avro_container.proofs.writer.what_is_written_is_read.Goals as goal

pub returns-clause-once : goal.returns-clause-once
returns-clause-once c = λ file fits meta text some room short. text_read_again file fits meta (schema_read file.schema text) some room short

pub returns-clause-any : goal.returns-clause-any
returns-clause-any c = λ file fits meta reads some room short. text_read_again file fits meta reads some room short

pub returns-clause-again : goal.returns-clause-again
returns-clause-again c = λ file text fits meta read some room short. text_read_again file fits meta (read_text_again text file.schema read).text some room short
