use Rattle.serde_json.specs.View.{view}
use Rattle.avro_binary.proofs.SchemaFloats.{is_text, reads_text}
use Rattle.avro_binary.proofs.schema_writer.write_schema.Goals as goal

pub returns-clause-text : goal.returns-clause-text
returns-clause-text c = is_text c.args.schema.now (view c.in_ok-json.json) c.new.result.items c.in_ok-json._names.items c.in_ok-text.text.items c.new.ensures.items c.in_ok-json.ensures c.in_ok-text.ensures.text

pub returns-clause-reads_back : goal.returns-clause-reads_back
returns-clause-reads_back c = reads_text c.args.schema.now (view c.in_ok-json.json) c.new.result.items c.in_ok-json._names.items c.in_ok-text.text.items c.new.ensures.items c.in_ok-json.ensures c.in_ok-text.ensures.utf8 c.in_ok-text.ensures.reads_back
