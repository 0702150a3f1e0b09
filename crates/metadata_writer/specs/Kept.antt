-- What a commit leaves as it was.
use Rattle.std.specs.Prelude.{◌≡◌, ◌≢◌, ℕ, codes, List, true}
use Rattle.table_metadata.specs.References.{is_main_name}

-- A commit on the branch doesn't write the key.
pub record IsKept (branch key : List ℕ) : Type 0 where
  pub snapshots : key ≢ codes "snapshots"
  pub number : key ≢ codes "last-sequence-number"
  pub refs : key ≢ codes "refs"
  pub current : is_main_name branch ≡ true → key ≢ codes "current-snapshot-id"
  pub log : is_main_name branch ≡ true → key ≢ codes "snapshot-log"
  pub time : key ≢ codes "last-updated-ms"
  pub writer : key ≢ codes "dml-writer"
