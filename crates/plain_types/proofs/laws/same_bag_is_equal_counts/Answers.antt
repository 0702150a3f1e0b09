use Rattle.plain_types.proofs.BagLaws.{SameBag-count_by, SameBag-from_counts}
use Rattle.plain_types.proofs.laws.same_bag_is_equal_counts.Goals as goal

pub returns : goal.returns
returns g c = λ xs ys. (SameBag-count_by xs ys, SameBag-from_counts xs ys)
