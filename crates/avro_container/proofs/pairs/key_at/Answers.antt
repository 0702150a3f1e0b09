use Rattle.avro_container.proofs.Texts.{text_is}
use Rattle.avro_container.proofs.pairs.key_at.Goals as goal

pub text-requires : goal.text-requires
text-requires c = text_is c.args.bytes.now c.in-Ok.found.0.now c.in-Ok.found.1.now c.in-Ok.ensures
