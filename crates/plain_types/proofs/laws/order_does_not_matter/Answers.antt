use Rattle.plain_types.proofs.BagLaws.{SameBag-append_comm}
use Rattle.plain_types.proofs.laws.order_does_not_matter.Goals as goal

pub returns : goal.returns
returns g c = SameBag-append_comm
