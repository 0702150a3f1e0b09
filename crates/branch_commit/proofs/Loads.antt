-- Loads of one branch: what was loaded stands when files are added, so two loads of one version agree.
use Rattle.std.proofs.Common.{◌≡◌, ℕ, List, [], ◌∷◌, ◌++◌, Option, Some, Result, Ok, sym, ap, ◌∙◌}
use Rattle.std.specs.FinMap as map
use Rattle.plain_types.specs.Steps.{◌>>=◌, fault_as, or_fault}
use Rattle.row_values.specs.declared.value.Value.{Value}
use Rattle.store_core.specs.Files.{Files, KeepsFiles}
use Rattle.manifest_files.specs.declared.entry.Entry.{Entry}
use Rattle.manifest_files.specs.declared.manifest_row.ManifestRow.{ManifestRow}
use Rattle.plain_types.proofs.CallerLemmas.{one_value, two_steps}
use Rattle.table_metadata.specs.declared.metadata.Metadata.{Metadata}
use Rattle.table_metadata.specs.Metadata.{Parts, metadata_of, parts}
use Rattle.table_names.specs.Versions.{version_name}
use Rattle.table_state.proofs.CallerLemmas.{live_stands}
use Rattle.table_state.specs.declared.live_set.BranchState.{BranchState}
use Rattle.table_state.specs.declared.load_fault.LoadFault.{LoadFault}
use Rattle.table_state.specs.declared.load_fault.LoadFault.TheVariants as fault
use Rattle.table_state.specs.Files.{entries_in, file_at, manifest_at, version_at}
use Rattle.table_state.specs.Live.{branch_at, data_files_of, data_rows, live_of, rows_at, rows_of_branch}
use Rattle.table_names.specs.Paths.{name_of}
use Rattle.table_state.specs.declared.state.LiveCount.{LiveCount}
use Rattle.table_state.specs.declared.state.State.{State}
use Rattle.table_state.specs.Gathering.{count_of}
use Rattle.table_state.specs.States.{IsStateOf, IsVersionOf, counts_at, manifests_of}
use Rattle.commit_builder.proofs.CallerLemmas.{file_kept_by}

some_value : {A : Type 0} (a b : A) (o : Option A) → o ≡ Some a → o ≡ Some b → a ≡ b
some_value a b o h k = cc

module _ (table branch : List ℕ) (version : ℕ) where
  -- ---- one load

  version_read : (files : Files) (metadata : Metadata) → IsVersionOf table version files metadata → version_at table version files ≡ Ok (parts metadata)
  unfolding version_at
  version_read files metadata is =
      ap (λ (o : Option (List ℕ)). or_fault (fault.Missing (version_name table version)) o >>= λ bytes. fault_as fault.Metadata (metadata_of bytes)) is.stands
      ∙ ap (fault_as fault.Metadata) is.read.read

  branch_read : (files : Files) (metadata : Metadata) → IsVersionOf table version files metadata
      → live_of table version branch files ≡ branch_at table (parts metadata) branch files
  unfolding live_of
  branch_read files metadata is = ap (λ (r : Result Parts LoadFault). r >>= λ p. branch_at table p branch files) (version_read files metadata is)

  head_read : (files : Files) (loaded : State) → IsStateOf table version branch files loaded → live_of table version branch files ≡ Ok loaded.head
  head_read files loaded is = branch_read files loaded.metadata is.metadata ∙ is.head

  -- the rows of the branch are those of the data files that were loaded
  pub loaded_rows : (files : Files) (loaded : State) (rows : List (List Value)) → IsStateOf table version branch files loaded
      → rows_of_branch table version branch files ≡ Ok rows
      → data_rows table (parts loaded.metadata) [] (data_files_of loaded.head) files ≡ Ok rows
  unfolding rows_of_branch rows_at
  loaded_rows files loaded rows is e =
      sym (ap (λ (r : Result Parts LoadFault). r >>= λ p. rows_at table p branch files) (version_read files loaded.metadata is.metadata)
      ∙ ap (λ (r : Result BranchState LoadFault). r >>= λ found. data_rows table (parts loaded.metadata) [] (data_files_of found) files) is.head)
      ∙ e

  -- ---- more files

  module _ (now later : Files) (kept : KeepsFiles (Some now) (Some later)) where
    manifest_stands : (p : Parts) (row : ManifestRow) (entries : List Entry) → manifest_at table p row now ≡ Ok entries
        → manifest_at table p row later ≡ Ok entries
    unfolding manifest_at file_at
    manifest_stands p row entries e =
        let read = two_steps (file_at table p.location row.manifest_path now) (entries_in p row) entries e in
        ap (λ (r : Result (List ℕ) LoadFault). r >>= entries_in p row) (file_kept_by row.manifest_path now later (name_of table p.location row.manifest_path) read.0 kept read.1) ∙ read.2

    counts_stand : (p : Parts) (earlier : List LiveCount) (rows : List ManifestRow) (counts : List LiveCount)
        → counts_at table p earlier rows now ≡ Ok counts → counts_at table p earlier rows later ≡ Ok counts
    unfolding counts_at
    counts_stand p earlier [] counts e = e
    counts_stand p earlier (row ∷ rows) counts e =
        let read = two_steps (manifest_at table p row now) (λ entries. counts_at table p (earlier ++ count_of entries ∷ []) rows now) counts e in
        ap (λ (r : Result (List Entry) LoadFault). r >>= λ entries. counts_at table p (earlier ++ count_of entries ∷ []) rows later) (manifest_stands p row read.0 read.1)
        ∙ counts_stand p (earlier ++ count_of read.0 ∷ []) rows counts read.2

    version_stands : (metadata : Metadata) → IsVersionOf table version now metadata → IsVersionOf table version later metadata
    version_stands metadata is = record { bytes = is.bytes; stands = kept (version_name table version) is.bytes is.stands; read = is.read }

    -- what was loaded would be loaded again
    pub states_stand : (loaded : State) → IsStateOf table version branch now loaded → IsStateOf table version branch later loaded
    states_stand loaded is = record {
      table_name = is.table_name;
      version_number = is.version_number;
      branch_name = is.branch_name;
      metadata = version_stands loaded.metadata is.metadata;
      head = sym (branch_read later loaded.metadata (version_stands loaded.metadata is.metadata)) ∙ live_stands now later kept table version branch loaded.head (head_read now loaded is);
      held = counts_stand (parts loaded.metadata) [] (manifests_of loaded.head) loaded.held is.held;
    }

    -- ---- two loads of one version

    module _ (one other : State) (is : IsStateOf table version branch now one) (also : IsStateOf table version branch later other) where
      pub same_head : one.head ≡ other.head
      same_head = one_value one.head other.head (live_of table version branch later) (live_stands now later kept table version branch one.head (head_read now one is)) (head_read later other also)

      pub same_parts : parts one.metadata ≡ parts other.metadata
      same_parts =
          let there : map.get later (version_name table version) ≡ Some is.metadata.bytes = kept (version_name table version) is.metadata.bytes is.metadata.stands in
          let same : is.metadata.bytes ≡ also.metadata.bytes = some_value is.metadata.bytes also.metadata.bytes (map.get later (version_name table version)) there also.metadata.stands in
          one_value (parts one.metadata) (parts other.metadata) (metadata_of also.metadata.bytes) (ap metadata_of (sym same) ∙ is.metadata.read.read) also.metadata.read.read
