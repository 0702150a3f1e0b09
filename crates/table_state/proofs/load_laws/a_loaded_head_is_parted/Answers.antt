use Rattle.table_state.proofs.Parting.{head_is_parted}
use Rattle.table_state.proofs.load_laws.a_loaded_head_is_parted.Goals as goal

pub returns : goal.returns
returns c = λ table branch version files loaded snapshot rows live state is_head. head_is_parted table branch version files loaded snapshot rows live state is_head
