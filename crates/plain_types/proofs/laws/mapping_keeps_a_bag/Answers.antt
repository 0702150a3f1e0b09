use Rattle.plain_types.proofs.BagLaws.{SameBag-map}
use Rattle.plain_types.proofs.laws.mapping_keeps_a_bag.Goals as goal

pub returns : goal.returns
returns g c = SameBag-map
