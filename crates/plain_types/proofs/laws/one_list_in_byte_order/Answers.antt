use Rattle.plain_types.proofs.ByteOrderLaws.{in_byte_order-SameBag, SameBag-in_byte_order, IsSorted-in_byte_order, in_byte_order-from_sorted}
use Rattle.plain_types.proofs.laws.one_list_in_byte_order.Goals as goal

pub returns-clause-one : goal.returns-clause-one
returns-clause-one c = in_byte_order-SameBag

pub returns-clause-same : goal.returns-clause-same
returns-clause-same c = SameBag-in_byte_order

pub returns-clause-sorted : goal.returns-clause-sorted
returns-clause-sorted c = IsSorted-in_byte_order

pub returns-clause-only : goal.returns-clause-only
returns-clause-only c = in_byte_order-from_sorted
