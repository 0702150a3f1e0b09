-- The table is open at the version that was prepared, once that stands under its name, and has the statement's rows there.
use Rattle.std.proofs.Common.{◌≡◌, ◌≢◌, ◌+◌, ◌<◌, ℕ, true, List, [], Option, Some, None, Ok, codes, length, ap, subst, sym, ◌∙◌}
use Rattle.std.specs.FinMap as map
use Rattle.plain_types.specs.Bags.{SameBag}
use Rattle.plain_types.specs.Steps.{◌>>=◌, by_option, fault_as, or_fault}
use Rattle.row_values.specs.declared.schema.Column.{Column}
use Rattle.row_values.specs.declared.schema.TableSchema.{TableSchema}
use Rattle.row_values.specs.declared.value.Value.{Value}
use Rattle.sql_statements.specs.declared.statement.Source.{Source}
use Rattle.sql_statements.specs.declared.statement.Statement.{Statement}
use Rattle.sql_statements.specs.Effects.{result_of, rows_after}
use Rattle.sql_statements.specs.Tables.{branch_of}
use Rattle.store_core.specs.Files.{Files, KeepsFiles}
use Rattle.table_names.proofs.CallerLemmas.{next_version}
use Rattle.table_names.specs.Versions.{version_name, version_of, version_of_name, version_prefix}
use Rattle.plain_types.proofs.CallerLemmas.{one_value}
use Rattle.table_metadata.specs.declared.metadata_fault.MetadataFault.TheVariants as metadata_fault
use Rattle.table_metadata.specs.Metadata.{Parts, metadata_of, parts}
use Rattle.metadata_writer.specs.PartsAfter.{parts_after}
use Rattle.table_state.specs.Form.{table_in_form}
use Rattle.table_state.proofs.CallerLemmas.{rows_of_branch_stand}
use Rattle.table_state.specs.declared.load_fault.LoadFault.{LoadFault}
use Rattle.table_state.specs.declared.load_fault.LoadFault.TheVariants as fault
use Rattle.table_state.specs.Files.{current_schema, version_at}
use Rattle.table_metadata.specs.ById.{schema_with}
use Rattle.table_state.specs.Live.{rows_of_branch}
use Rattle.table_state.specs.declared.state.State.{State}
use Rattle.commit_builder.specs.declared.commit.Prepared.{Prepared}
use Rattle.commit_builder.specs.Commits.{files_after, snapshot_in}
use Rattle.branch_commit.proofs.CallerLemmas.{committed}
use Rattle.branch_commit.specs.Committing.{columns_of, width_of}
use Rattle.branch_commit.specs.declared.outcome.Pending.{Pending}
use Rattle.session_steps.specs.Open.{IsOpen}
use Rattle.session_steps.specs.Work.{IsSwapping}
use Rattle.session_steps.proofs.FormAfter.{form_after}
use Rattle.session_steps.proofs.OneTable.{head_form, head_held, planned_stays}
use Rattle.session_steps.proofs.OneVersion.{base_version, head_is_base, name, small}
use Rattle.session_steps.proofs.Validated.{change, files_are, prepares_on, was_prepared}
use Rattle.session_steps.proofs.Written.{written}

schema_is : (f : LoadFault) (found : Option TableSchema) (schema other : TableSchema) → or_fault f found ≡ Ok schema → by_option found (λ s. s) other ≡ schema
schema_is f (Some s) schema other e = cc
schema_is f None schema other e = absurd cc

module _ (table : List ℕ) (schema : TableSchema) (sources : List Source) (s : Statement) (files later : Files) (current : ℕ) (pending : Pending)
    (prepared : Prepared) (was : IsOpen table schema files current) (main : branch_of s ≡ codes "main")
    (is : IsSwapping table schema sources s files pending prepared)
    (stands : map.get later prepared.name ≡ Some prepared.bytes) (keeps : KeepsFiles (Some files) (Some later)) (others : (q : List ℕ) → 0 < version_of_name (version_prefix table) q → q ≢ prepared.name → map.get later q ≡ map.get files q) where
  abbrev base : State
  base = pending.base

  abbrev head : State
  head = is.head

  -- ---- the version

  next_name : prepared.name ≡ version_name table (current + 1)
  next_name = name table schema sources s files current pending prepared was is

  is_there : map.get later (version_name table (current + 1)) ≡ Some prepared.bytes
  is_there = ap (map.get later) (sym next_name) ∙ stands

  newest : version_of table later ≡ Some (current + 1)
  newest = next_version table files later current prepared.bytes was.newest (small table schema sources s files current pending prepared was is) is_there (λ q is_version other. others q is_version (λ e. other (e ∙ next_name)))

  -- ---- its metadata

  abbrev next_parts : Parts
  next_parts = parts_after (codes "main") (snapshot_in head (change table schema sources s files current pending prepared was is) is.names is.now) is.now (parts head.metadata)

  next_metadata : metadata_of prepared.bytes ≡ Ok next_parts
  next_metadata =
      (prepares_on table schema sources s files current pending prepared was is (codes "main") main).read
      is.loaded.state.metadata.bytes is.loaded.state.metadata.read (was_prepared table schema sources s files current pending prepared was is).laid_on.follows

  read : version_at table (current + 1) later ≡ Ok next_parts
  unfolding version_at
  read =
      ap (λ (found : Option (List ℕ)). or_fault (fault.Missing (version_name table (current + 1))) found >>= λ bytes. fault_as fault.Metadata (metadata_of bytes)) is_there
      ∙ ap (fault_as fault.Metadata) next_metadata

  by_schema : current_schema next_parts ≡ Ok schema
  by_schema = ap current_schema (head_held table schema sources s files current pending prepared was is) ∙ was.by_schema

  form : table_in_form next_parts ≡ true
  form = form_after (snapshot_in head (change table schema sources s files current pending prepared was is) is.names is.now) is.now (parts head.metadata) (head_form table schema sources s files current pending prepared was is)

  -- ---- its rows

  abbrev first_rows : List (List Value)
  first_rows = is.pends.was.rows

  same_rows : first_rows ≡ was.rows
  same_rows =
      one_value first_rows was.rows (rows_of_branch table current (codes "main") files)
      (ap (λ (version : ℕ). rows_of_branch table version (codes "main") files) (sym (base_version table schema sources s files current pending prepared was is))
      ∙ rows_of_branch_stand is.pends.old files (planned_stays table schema sources s files current pending prepared was is) table base.version (codes "main") first_rows is.pends.was.told)
      was.told

  base_columns : columns_of base ≡ schema.columns
  base_columns = ap (λ (x : TableSchema). x.columns) (schema_is (fault.Metadata (metadata_fault.Shape (codes "current-schema-id"))) (schema_with base.metadata.current_schema base.metadata.schemas) schema (record { id = base.metadata.current_schema; columns = [] }) is.pends.by_schema)

  base_branch : base.branch ≡ codes "main"
  base_branch = is.pends.loaded.state.branch_name ∙ main

  base_told : rows_of_branch base.table base.version base.branch is.pends.old ≡ Ok first_rows
  base_told =
      ap (λ (t : List ℕ). rows_of_branch t base.version base.branch is.pends.old) is.pends.loaded.state.table_name
      ∙ ap (λ (b : List ℕ). rows_of_branch table base.version b is.pends.old) base_branch
      ∙ is.pends.was.told

  put_stays : KeepsFiles (Some (files_after head (change table schema sources s files current pending prepared was is) is.names is.old)) (Some later)
  put_stays = subst (λ (put : Files). KeepsFiles (Some put) (Some later)) (files_are table schema sources s files current pending prepared was is) (λ q bytes there. keeps q bytes (is.stays q bytes there))

  stands_next : map.get later (version_name head.table (head.version + 1)) ≡ Some prepared.bytes
  stands_next = ap (map.get later) (sym (prepares_on table schema sources s files current pending prepared was is (codes "main") main).name) ∙ stands

  abbrev Leaves : Type 0
  Leaves = (result_of (columns_of base) sources s first_rows ≡ Ok (rows_after (width_of base) sources s first_rows)) × ((found : List (List Value)) × (rows_of_branch base.table (base.version + 1) base.branch later ≡ Ok found) × SameBag found (rows_after (width_of base) sources s first_rows))

  leaves : Leaves
  leaves =
      committed base head sources s is.pends.ready.scanned is.pends.names is.names is.now is.pends.old is.pends.put is.old later prepared first_rows
      (is.loaded.state.table_name ∙ sym is.pends.loaded.state.table_name)
      (head_is_base table schema sources s files current pending prepared was is)
      (is.loaded.state.branch_name ∙ sym is.pends.loaded.state.branch_name)
      is.pends.ready.planned (written table schema sources s files current pending prepared was is) is.pends.kept is.pends.stays
      (was_prepared table schema sources s files current pending prepared was is) put_stays stands_next base_told

  told : rows_of_branch table (current + 1) (codes "main") later ≡ Ok leaves.1.0
  told =
      sym (ap (λ (t : List ℕ). rows_of_branch t (base.version + 1) base.branch later) is.pends.loaded.state.table_name
      ∙ ap (λ (version : ℕ). rows_of_branch table (version + 1) base.branch later) (base_version table schema sources s files current pending prepared was is)
      ∙ ap (λ (b : List ℕ). rows_of_branch table (current + 1) b later) base_branch)
      ∙ leaves.1.1

  -- ---- the whole

  abbrev next : IsOpen table schema later (current + 1)
  next = record { newest = newest; held = next_parts; read = read; by_schema = by_schema; form = form; rows = leaves.1.0; told = told }

  accepted : result_of schema.columns sources s was.rows ≡ Ok (rows_after (length schema.columns) sources s was.rows)
  accepted =
      subst (λ (columns : List Column). result_of columns sources s was.rows ≡ Ok (rows_after (length columns) sources s was.rows)) base_columns
      (subst (λ (rows : List (List Value)). result_of (columns_of base) sources s rows ≡ Ok (rows_after (width_of base) sources s rows)) same_rows leaves.0)

  same : SameBag leaves.1.0 (rows_after (length schema.columns) sources s was.rows)
  same =
      subst (λ (columns : List Column). SameBag leaves.1.0 (rows_after (length columns) sources s was.rows)) base_columns
      (subst (λ (rows : List (List Value)). SameBag leaves.1.0 (rows_after (width_of base) sources s rows)) same_rows leaves.1.2)

  pub stays_open : (after : IsOpen table schema later (current + 1))
      × (result_of schema.columns sources s was.rows ≡ Ok (rows_after (length schema.columns) sources s was.rows))
      × SameBag after.rows (rows_after (length schema.columns) sources s was.rows)
  stays_open = (next, accepted, same)
