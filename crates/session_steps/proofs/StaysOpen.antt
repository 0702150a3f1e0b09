-- An open table stays open where files are added of which none is a version.
use Rattle.std.proofs.Common.{◌≡◌, ◌<◌, ℕ, List, Some, refl, ◌∙◌}
use Rattle.std.specs.FinMap as map
use Rattle.row_values.specs.declared.schema.TableSchema.{TableSchema}
use Rattle.store_core.specs.Files.{Files, KeepsFiles}
use Rattle.table_names.proofs.CallerLemmas.{same_version}
use Rattle.table_names.specs.Versions.{version_of_name, version_prefix}
use Rattle.table_state.proofs.CallerLemmas.{rows_of_branch_stand, version_stands}
use Rattle.session_steps.specs.Open.{IsOpen}

module _ (table : List ℕ) (schema : TableSchema) (files later : Files) (current : ℕ) (was : IsOpen table schema files current)
    (kept : KeepsFiles (Some files) (Some later)) (same : (name : List ℕ) → 0 < version_of_name (version_prefix table) name
    → map.get later name ≡ map.get files name) where
  abbrev still : IsOpen table schema later current
  still = record {
    newest = same_version table files later same ∙ was.newest;
    held = was.held;
    read = version_stands files later kept table current was.held was.read;
    by_schema = was.by_schema;
    form = was.form;
    rows = was.rows;
    told = rows_of_branch_stand files later kept table current _ was.rows was.told;
  }

  pub stays_open : (now : IsOpen table schema later current) × (now.rows ≡ was.rows)
  stays_open = (still, refl)
