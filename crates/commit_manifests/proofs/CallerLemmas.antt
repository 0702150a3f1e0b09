-- What other crates cite of the proofs here, by topic.

-- Both of two tests.
pub use Rattle.commit_manifests.proofs.Conjunction.{both, first, second}
-- What holds of every entry of the manifests that a commit writes.
pub use Rattle.commit_manifests.proofs.Every.{IsNumbered, all_joined, all_numbered, all_read_as_they_were}
-- What the manifests of a commit hold, weighed.
pub use Rattle.commit_manifests.proofs.Held.{holds}
-- A row can be listed.
pub use Rattle.commit_manifests.proofs.ListedLaws.{row_listed}
