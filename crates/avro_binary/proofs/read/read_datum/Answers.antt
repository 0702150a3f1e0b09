use Rattle.avro_binary.specs.Shape.{shape}
use Rattle.avro_binary.proofs.Answered.{is_found, is_only, is_fault}
use Rattle.avro_binary.proofs.read.read_datum.Goals as goal

pub returns-clause-found : goal.returns-clause-found
returns-clause-found c = is_found (shape c.args.schema.now) c.args.bytes.now c.answer.result c.answer.ensures

pub returns-clause-only : goal.returns-clause-only
returns-clause-only c = is_only (shape c.args.schema.now) c.args.bytes.now c.answer.result c.answer.ensures

pub returns-clause-fails : goal.returns-clause-fails
returns-clause-fails c = is_fault (shape c.args.schema.now) c.args.bytes.now c.answer.result c.answer.ensures
