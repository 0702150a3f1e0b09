use Rattle.avro_binary.proofs.SchemaLaws.{data_read}
use Rattle.avro_binary.proofs.SchemaTexts.{schema_read}
use Rattle.avro_binary.proofs.ReadAgain.{read_text_again}
use Rattle.avro_binary.proofs.writing_laws.the_text_of_a_schema_is_read.Goals as goal

pub returns-clause-json : goal.returns-clause-json
returns-clause-json c = λ s text. data_read s text

pub returns-clause-text : goal.returns-clause-text
returns-clause-text c = λ s text. schema_read s text

pub returns-clause-json_again : goal.returns-clause-json_again
returns-clause-json_again c = λ bytes s read. (read_text_again bytes s read).json

pub returns-clause-text_again : goal.returns-clause-text_again
returns-clause-text_again c = λ bytes s read. (read_text_again bytes s read).text
