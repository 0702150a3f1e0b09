use Rattle.plain_types.proofs.BagLaws.{SameBag-from_permutation, IsPermutation-from_SameBag}
use Rattle.plain_types.proofs.laws.permutation_is_same_bag.Goals as goal

pub returns-clause-moved : goal.returns-clause-moved
returns-clause-moved g c = SameBag-from_permutation

pub returns-clause-back : goal.returns-clause-back
returns-clause-back g c = λ same xs ys tells. IsPermutation-from_SameBag tells xs ys
