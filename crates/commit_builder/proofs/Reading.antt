-- The manifests and the list of a commit are read again.
use Rattle.std.proofs.Common.{◌≡◌, ◌<◌, ◌+◌, ◌^◌, ℕ, ℤ, Bool, true, false, codes, cond, List, [], ◌∷◌, ◌++◌, length, Option, Some, Result, Ok, refl, sym, ap, subst, ◌∙◌, append_assoc, append-nil, arith}
use Rattle.std.specs.Prelude.{⊤, if◌then◌else◌}
use Rattle.std.specs.FinMap as files_map
use Rattle.std.specs.FinMap.{get-insert}
use Rattle.std.specs.List.{AllByRecursion}
use Rattle.std.specs.Ordering.{int_eq}
use Rattle.std.specs.Str.{IsUtf8}
use Rattle.std.proofs.lemmas.Cmp.{nat_list_cmp_total}
use Rattle.std.proofs.lemmas.Int.{ints}
use Rattle.std.proofs.lemmas.Map.Text.{is_eq-slice_cmp}
use Rattle.std.proofs.lemmas.Slice.Eq.{bytes_eq-Decides}
use Rattle.plain_types.specs.Steps.{◌>>=◌, or_fault, fault_as}
use Rattle.row_values.specs.declared.partition.Spec.{Spec}
use Rattle.row_values.specs.declared.schema.TableSchema.{TableSchema}
use Rattle.store_core.proofs.CallerLemmas.{kept-with_file}
use Rattle.store_core.specs.Files.{Files, KeepsFiles, with_file}
use Rattle.table_names.proofs.CallerLemmas.{after_metadata, metadata_is}
use Rattle.table_names.specs.declared.names.Names.{Names}
use Rattle.table_names.specs.FileNames.{NoneFrom}
use Rattle.table_names.specs.Sessions.{HasNoSlash}
use Rattle.manifest_files.specs.declared.entry.Entry.{Entry}
use Rattle.manifest_files.specs.declared.manifest_fault.ManifestFault.TheVariants as manifest
use Rattle.manifest_files.specs.declared.manifest_row.ManifestRow.{ManifestRow}
use Rattle.manifest_files.specs.Entries.{entries_of}
use Rattle.commit_manifests.specs.declared.commit_numbers.CommitNumbers.{CommitNumbers}
use Rattle.manifest_writer.proofs.CallerLemmas.{manifest_again}
use Rattle.table_metadata.specs.declared.metadata_fault.MetadataFault.TheVariants as metadata
use Rattle.table_metadata.specs.Metadata.{Parts}
use Rattle.table_state.specs.declared.load_fault.LoadFault.{LoadFault}
use Rattle.table_state.specs.declared.load_fault.LoadFault.TheVariants as fault
use Rattle.table_state.specs.Files.{bytes_under, current_schema, entries_in, file_at, manifest_at}
use Rattle.table_metadata.specs.ById.{schema_with, spec_with}
use Rattle.table_state.specs.Live.{entries_at}
use Rattle.table_names.specs.Paths.{folder_of, name_of}
use Rattle.table_state.specs.declared.state.State.{State}
use Rattle.commit_manifests.specs.declared.drafts.Draft.{Draft}
use Rattle.commit_builder.specs.Commits.{IsSpelled, files_from, next_name, row_in, rows_from, schema_of, text_in}
use Rattle.commit_manifests.specs.Drafts.{spec_in}
use Rattle.commit_manifests.specs.Holding.{entries_of as entries_in_drafts}
use Rattle.commit_builder.specs.NextVersion.{IsReadable}
use Rattle.commit_manifests.proofs.CallerLemmas.{IsNumbered, all_read_as_they_were}

-- ---- files

pub there : (files : Files) (name bytes : List ℕ) → files_map.get (with_file name bytes files) name ≡ Some bytes
there files name bytes =
    get-insert nat_list_cmp_total files name bytes name
    ∙ ap (λ b. cond b (Some bytes) (files_map.get files name)) (is_eq-slice_cmp name name ∙ (bytes_eq-Decides name name).1 refl)

module _ (table location : List ℕ) (later : Files) where
  pub file_is : (path name bytes : List ℕ) → name_of table location path ≡ Some name → files_map.get later name ≡ Some bytes
      → file_at table location path later ≡ Ok bytes
  unfolding file_at
  file_is path name bytes named stands =
      ap (λ (o : Option (List ℕ)). or_fault (fault.Outside path) o >>= λ n. bytes_under path n later) named
      ∙ ap (λ (o : Option (List ℕ)). or_fault (fault.Missing path) o) stands

-- ---- what the metadata has by id

own_id_by : (b : Bool) (id : ℤ) (one spec : Spec) (specs : List Spec) → int_eq one.id id ≡ b
    → (if b then Some one else spec_with id specs) ≡ Some spec → (spec_with id specs ≡ Some spec → spec.id ≡ id) → spec.id ≡ id
own_id_by true id one spec specs is found rest =
    let same : one ≡ spec = cc in
    ap (λ (s : Spec). s.id) (sym same) ∙ grind (arith, ints, is)
own_id_by false id one spec specs is found rest = rest found

pub own_id : (id : ℤ) (spec : Spec) (specs : List Spec) → spec_with id specs ≡ Some spec → spec.id ≡ id
unfolding spec_with
own_id id spec [] found = absurd cc
own_id id spec (one ∷ specs) found = own_id_by (int_eq one.id id) id one spec specs refl found (own_id id spec specs)

-- ---- a manifest

module _ (p : Parts) (row : ManifestRow) where
  entries_are : (bytes : List ℕ) (spec : Spec) (schema : TableSchema) (entries : List Entry)
      → spec_with row.partition_spec_id p.specs ≡ Some spec → schema_with p.current_schema p.schemas ≡ Some schema
      → entries_of bytes row spec schema ≡ Ok entries → entries_in p row bytes ≡ Ok entries
  unfolding entries_in
  entries_are bytes spec schema entries spec_is schema_is read =
      ap (λ (o : Option Spec). or_fault (fault.Manifest row.manifest_path (manifest.Spec row.partition_spec_id)) o >>= λ s. current_schema p >>= λ sc. fault_as (fault.Manifest row.manifest_path) (entries_of bytes row s sc)) spec_is
      ∙ ap (λ (o : Option TableSchema). or_fault (fault.Metadata (metadata.Shape (codes "current-schema-id"))) o >>= λ sc. fault_as (fault.Manifest row.manifest_path) (entries_of bytes row spec sc)) schema_is
      ∙ ap (fault_as (fault.Manifest row.manifest_path)) read

module _ (head : State) (numbers : CommitNumbers) (p : Parts) (later : Files) (location_is : p.location ≡ head.metadata.location) (specs_are : p.specs ≡ head.metadata.specs) (schema_is : schema_with p.current_schema p.schemas ≡ Some (schema_of head)) where
  abbrev Row : Names → Draft → ManifestRow
  Row names draft = row_in head (schema_of head) numbers names draft

  text_is : (draft : Draft) (row : ManifestRow) → row.sequence_number ≡ numbers.seq → IsReadable head draft
      → IsSpelled head (schema_of head) draft → AllByRecursion (IsNumbered numbers.seq) draft.entries
      → entries_of (text_in head (schema_of head) draft) row (spec_in head.metadata.specs draft.spec) (schema_of head) ≡ Ok draft.entries
  unfolding text_in
  text_is draft row number readable spelled numbered =
      manifest_again draft.entries (spec_in head.metadata.specs draft.spec) (schema_of head) row spelled.entries readable.entries spelled.small
      ∙ ap (λ (es : List Entry). Ok es) (all_read_as_they_were row draft.entries (subst (λ n. AllByRecursion (IsNumbered n) draft.entries) (sym number) numbered))

  module _ (run : ℕ) (session : List ℕ) (text : IsUtf8 session) (slash : HasNoSlash session) (run_fits : run < 2 ^ 64) where
    abbrev names_at : ℕ → Names
    names_at n = record { run = run; session = session; next = n }

    manifest_is : (n : ℕ) (draft : Draft) → n < 2 ^ 128 → IsReadable head draft → IsSpelled head (schema_of head) draft
        → AllByRecursion (IsNumbered numbers.seq) draft.entries
        → files_map.get later (next_name head.table (names_at n)) ≡ Some (text_in head (schema_of head) draft)
        → manifest_at head.table p (Row (names_at n) draft) later ≡ Ok draft.entries
    unfolding manifest_at row_in
    manifest_is n draft n_fits readable spelled numbered stands =
        let row : ManifestRow = Row (names_at n) draft in
        let named : name_of head.table p.location (next_name (folder_of head.metadata.location) (names_at n)) ≡ Some (next_name head.table (names_at n)) =
        ap (λ (l : List ℕ). name_of head.table l (next_name (folder_of head.metadata.location) (names_at n))) location_is ∙ metadata_is session run n text slash run_fits n_fits head.table head.metadata.location in
        let spec_is : spec_with row.partition_spec_id p.specs ≡ Some (spec_in head.metadata.specs draft.spec) =
        ap (λ (specs : List Spec). spec_with row.partition_spec_id specs) specs_are
        ∙ ap (λ (id : ℤ). spec_with id head.metadata.specs) (own_id draft.spec (spec_in head.metadata.specs draft.spec) head.metadata.specs readable.spec)
        ∙ readable.spec in
        ap (λ (r : Result (List ℕ) LoadFault). r >>= entries_in p row) (file_is head.table p.location later row.manifest_path (next_name head.table (names_at n)) (text_in head (schema_of head) draft) named stands)
        ∙ entries_are p row (text_in head (schema_of head) draft) (spec_in head.metadata.specs draft.spec) (schema_of head) draft.entries spec_is schema_is (text_is draft row refl readable spelled numbered)

    -- ---- the manifests one after another

    -- their rows, under the names from this number on
    abbrev pub row_list : ℕ → List Draft → List ManifestRow
    row_list n [] = []
    row_list n (draft ∷ drafts) = Row (names_at n) draft ∷ row_list (n + 1) drafts

    pub rows_listed : (n : ℕ) (rows : List ManifestRow) (drafts : List Draft)
        → rows_from head (schema_of head) numbers (names_at n) rows drafts ≡ rows ++ row_list n drafts
    unfolding rows_from
    rows_listed n rows [] = sym (append-nil rows)
    rows_listed n rows (draft ∷ drafts) = rows_listed (n + 1) (rows ++ Row (names_at n) draft ∷ []) drafts ∙ append_assoc rows (Row (names_at n) draft ∷ []) (row_list (n + 1) drafts)

    -- they stand under their names
    abbrev pub Stand : ℕ → List Draft → Type 0
    Stand n [] = ⊤
    Stand n (draft ∷ drafts) = (files_map.get later (next_name head.table (names_at n)) ≡ Some (text_in head (schema_of head) draft)) × Stand (n + 1) drafts

    pub keeps_from : (n : ℕ) (drafts : List Draft) (files : Files) → n + length drafts < 2 ^ 128
        → NoneFrom head.table run session n files → KeepsFiles (Some files)
        (Some (files_from head (schema_of head) numbers (names_at n) files drafts))
    unfolding files_from
    keeps_from n [] files fits none = λ name bytes stands. stands
    keeps_from n (draft ∷ drafts) files fits none = λ name bytes stands.
        let text = text_in head (schema_of head) draft in
        keeps_from (n + 1) drafts (with_file (next_name head.table (names_at n)) text files) (omega arith) (after_metadata head.table session text run n files none) name bytes
        (kept-with_file files (next_name head.table (names_at n)) text (none.metadata_free n (omega arith) (omega arith)) name bytes stands)

    pub none_from : (n : ℕ) (drafts : List Draft) (files : Files) → NoneFrom head.table run session n files
        → NoneFrom head.table run session (n + length drafts) (files_from head (schema_of head) numbers (names_at n) files drafts)
    unfolding files_from
    none_from n [] files none = subst (λ m. NoneFrom head.table run session m files) (omega arith) none
    none_from n (draft ∷ drafts) files none =
        let text = text_in head (schema_of head) draft in
        let later_files = with_file (next_name head.table (names_at n)) text files in
        let same : (n + 1) + length drafts ≡ n + length (draft ∷ drafts) = omega arith in
        subst (λ m. NoneFrom head.table run session m (files_from head (schema_of head) numbers (names_at (n + 1)) later_files drafts)) same (none_from (n + 1) drafts later_files (after_metadata head.table session text run n files none))

    pub all_stand : (n : ℕ) (drafts : List Draft) (files : Files) → n + length drafts < 2 ^ 128
        → NoneFrom head.table run session n files
        → KeepsFiles (Some (files_from head (schema_of head) numbers (names_at n) files drafts)) (Some later) → Stand n drafts
    unfolding files_from
    all_stand n [] files fits none keeps = tt
    all_stand n (draft ∷ drafts) files fits none keeps =
        let text = text_in head (schema_of head) draft in
        let later_files = with_file (next_name head.table (names_at n)) text files in
        let later_none = after_metadata head.table session text run n files none in (
          keeps (next_name head.table (names_at n)) text (keeps_from (n + 1) drafts later_files (omega arith) later_none (next_name head.table (names_at n)) text (there files (next_name head.table (names_at n)) text)),
          all_stand (n + 1) drafts later_files (omega arith) later_none keeps,
        )

    pub all_read : (n : ℕ) (drafts : List Draft) (earlier : List Entry) (rest : List ManifestRow) → n + length drafts < 2 ^ 128
        → AllByRecursion (IsReadable head) drafts → AllByRecursion (IsSpelled head (schema_of head)) drafts → AllByRecursion (λ (draft : Draft). AllByRecursion (IsNumbered numbers.seq) draft.entries) drafts → Stand n drafts
        → entries_at head.table p earlier (row_list n drafts ++ rest) later ≡ entries_at head.table p (earlier ++ entries_in_drafts drafts) rest later
    unfolding entries_at entries_in_drafts
    all_read n [] earlier rest fits readable spelled numbered stand = ap (λ (es : List Entry). entries_at head.table p es rest later) (sym (append-nil earlier))
    all_read n (draft ∷ drafts) earlier rest fits readable spelled numbered stand =
        ap (λ (r : Result (List Entry) LoadFault). r >>= λ entries. entries_at head.table p (earlier ++ entries) (row_list (n + 1) drafts ++ rest) later) (manifest_is n draft (omega arith) readable.0 spelled.0 numbered.0 stand.0)
        ∙ all_read (n + 1) drafts (earlier ++ draft.entries) rest (omega arith) readable.1 spelled.1 numbered.1 stand.1
        ∙ ap (λ (es : List Entry). entries_at head.table p es rest later) (append_assoc earlier draft.entries (entries_in_drafts drafts))
