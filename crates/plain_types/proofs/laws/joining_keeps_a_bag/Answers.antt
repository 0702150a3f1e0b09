use Rattle.plain_types.proofs.BagLaws.{SameBag-append}
use Rattle.plain_types.proofs.laws.joining_keeps_a_bag.Goals as goal

pub returns : goal.returns
returns g c = SameBag-append
