use Rattle.avro_binary.specs.Shape.{shape}
use Rattle.avro_binary.proofs.Answered.{datum_rest, datum_used}
use Rattle.avro_binary.proofs.read.answer.Goals as goal

pub overflow_sub-result : goal.overflow_sub-result
overflow_sub-result c = (datum_rest (shape c.args.schema.now) c.args.bytes.now c.in-Ok.datum c.in-Ok.rest.now c.in-Ok.ensures).0

pub returns-in-Ok : goal.returns-in-Ok
returns-in-Ok c = datum_used (shape c.args.schema.now) c.args.bytes.now c.in-Ok.datum c.in-Ok.rest.now c.in-Ok.ensures
