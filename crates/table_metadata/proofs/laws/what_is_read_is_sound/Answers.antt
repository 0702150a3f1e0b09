use Rattle.table_metadata.proofs.Sound.{sound}
use Rattle.table_metadata.proofs.laws.what_is_read_is_sound.Goals as goal

pub returns : goal.returns
returns c = sound
