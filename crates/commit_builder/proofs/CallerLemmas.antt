-- What other crates cite of the proofs here, by topic.

-- What a change adds to a table of the form can be written, and is read again.
pub use Rattle.commit_builder.proofs.Adding.{can_be_read, change_can_be_laid}
-- The rows of the next version.
pub use Rattle.commit_builder.proofs.Next.{next_rows}
-- Data files, and delete files, of files that are the same as a bag.
pub use Rattle.commit_builder.proofs.Parts.{file_kept_by, rows_kept}
