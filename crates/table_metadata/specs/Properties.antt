-- Table properties (Iceberg's Spark documentation, "Writes", and its table configuration, "Write properties" and "Table
-- behavior properties"): those that say how rows are changed and how a commit is tried. Other properties are kept unread.
use Rattle.std.specs.Prelude.{ℕ, not, nat_eq, nat_le, max, codes, List, Bool, true, false, Option, Result, Ok, Err, option_and_then, if◌then◌else◌}
use Rattle.std.specs.Cmp.Lexicographic.{pointwise}
use Rattle.serde_json.specs.Data.{Data}
use Rattle.serde_json.specs.Find.{get}
use Rattle.table_metadata.specs.declared.metadata_fault.MetadataFault.{MetadataFault}
use Rattle.table_metadata.specs.declared.metadata_fault.MetadataFault.TheVariants as fault
use Rattle.table_metadata.specs.declared.properties.Properties.{Properties}
use Rattle.plain_types.specs.Digits.{whole_number}
use Rattle.iceberg_schema.specs.Keys.{text_at}
use Rattle.plain_types.specs.Steps.{◌>>=◌, or_fault, by_option}

-- the property's text
abbrev pub property_at : List ℕ → Data → Option (List ℕ)
property_at key d = option_and_then (text_at key) (get (codes "properties") d)

-- whether a text is the second of the two
abbrev pub second_of : List ℕ → List ℕ → List ℕ → List ℕ → Result Bool MetadataFault
second_of key first second text = if pointwise nat_eq text first then Ok false else (if pointwise nat_eq text second then Ok true else Err (fault.Property key))

-- whether the property is the second of its two values; where it is absent, it is the first
abbrev pub is_second : List ℕ → List ℕ → List ℕ → Data → Result Bool MetadataFault
is_second key first second d = by_option (property_at key d) (second_of key first second) (Ok false)

abbrev pub reads_on : List ℕ → Data → Result Bool MetadataFault
reads_on key d = is_second key (codes "copy-on-write") (codes "merge-on-read") d

abbrev pub is_snapshot_level : List ℕ → Data → Result Bool MetadataFault
is_snapshot_level key d = is_second key (codes "serializable") (codes "snapshot") d

-- how often a commit is tried again, 4 times where nothing is said and at most 1,000
unfoldable pub retries_of : Data → Result ℕ MetadataFault
retries_of d = by_option (property_at (codes "commit.retry.num-retries") d) (λ text. or_fault (fault.Property (codes "commit.retry.num-retries")) (whole_number text) >>= λ n. if nat_le n 1000 then Ok n else Err (fault.Property (codes "commit.retry.num-retries"))) (Ok 4)

-- how many manifests are merged at least, 100 where nothing is said and never below 2
unfoldable pub least_to_merge_of : Data → Result ℕ MetadataFault
least_to_merge_of d = by_option (property_at (codes "commit.manifest.min-count-to-merge") d) (λ text. or_fault (fault.Property (codes "commit.manifest.min-count-to-merge")) (whole_number text) >>= λ n. Ok (max n 2)) (Ok 100)

unfoldable pub properties_of : Data → Result Properties MetadataFault
properties_of d = do
  delete ← reads_on (codes "write.delete.mode") d
  update ← reads_on (codes "write.update.mode") d
  merge ← reads_on (codes "write.merge.mode") d
  delete_level ← is_snapshot_level (codes "write.delete.isolation-level") d
  update_level ← is_snapshot_level (codes "write.update.isolation-level") d
  merge_level ← is_snapshot_level (codes "write.merge.isolation-level") d
  retries ← retries_of d
  least_to_merge ← least_to_merge_of d
  disabled ← is_second (codes "commit.manifest-merge.enabled") (codes "true") (codes "false") d
  Ok (record {
    delete = record { on_read = delete; snapshot_level = delete_level };
    update = record { on_read = update; snapshot_level = update_level };
    merge = record { on_read = merge; snapshot_level = merge_level };
    retries = retries;
    least_to_merge = least_to_merge;
    merge_enabled = not disabled;
  })
