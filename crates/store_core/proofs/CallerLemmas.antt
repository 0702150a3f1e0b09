-- What other crates cite of the proofs here, by topic.

-- What callers cite of finite maps of files.
pub use Rattle.store_core.proofs.FilesLemmas.{get-files_of, get-none, kept-swapped, kept-with_file}
-- How calls that may make files leave a store: one that makes none, one after another, and an answer taken for another.
pub use Rattle.store_core.proofs.MovesLemmas.{may_add-put, moves_as, moves_err, moves_none, moves_ok, moves_then}
