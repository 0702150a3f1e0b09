-- What other crates cite of the proofs here, by topic.

-- Bounds that are written are read again.
pub use Rattle.kind_values.proofs.BoundLaws.{bound_again}
-- Numbers that are written are read again.
pub use Rattle.kind_values.proofs.Written.{digits_length, enough, in_again}
