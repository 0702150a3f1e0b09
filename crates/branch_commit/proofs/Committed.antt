-- A statement that is committed leaves its rows.
use Rattle.std.proofs.Common.{◌≡◌, ◌+◌, ℕ, ℤ, ⊎_elim, codes, true, List, [], ◌∷◌, ◌++◌, Option, Some, None, Ok, refl, sym, ap, subst, ◌∙◌, IsTrue}
use Rattle.std.specs.FinMap as map
use Rattle.std.specs.List.{list_all}
use Rattle.plain_types.specs.Bags.{SameBag}
use Rattle.plain_types.specs.Steps.{by_option, or_fault}
use Rattle.plain_types.proofs.CallerLemmas.{SameBag-trans}
use Rattle.row_values.specs.declared.schema.TableSchema.{TableSchema}
use Rattle.row_values.specs.declared.value.Value.{Value}
use Rattle.row_values.specs.Rows.{AreRows}
use Rattle.sql_predicates.specs.declared.pred.Pred.{Pred}
use Rattle.sql_statements.proofs.CallerLemmas.{rows_are_wide}
use Rattle.sql_statements.specs.declared.effect.SqlRefusal.{SqlRefusal}
use Rattle.sql_statements.specs.declared.statement.Source.{Source}
use Rattle.sql_statements.specs.declared.statement.Statement.{Statement}
use Rattle.sql_statements.specs.Effects.{refusal, result_of, rows_after, unless_refused}
use Rattle.sql_statements.specs.Fits.{are_wide}
use Rattle.store_core.specs.Files.{Files, KeepsFiles}
use Rattle.table_names.specs.declared.names.Names.{Names}
use Rattle.manifest_files.specs.declared.entry.Entry.{Entry}
use Rattle.table_metadata.specs.declared.metadata.Metadata.{Metadata}
use Rattle.table_metadata.specs.declared.metadata_fault.MetadataFault.TheVariants as metadata_fault
use Rattle.table_metadata.specs.Metadata.{Parts, parts}
use Rattle.table_names.specs.Versions.{version_name}
use Rattle.table_state.specs.declared.live_set.BranchState.{BranchState}
use Rattle.table_state.specs.declared.live_set.BranchState.TheVariants as state
use Rattle.table_state.specs.declared.load_fault.LoadFault.{LoadFault}
use Rattle.table_state.specs.declared.load_fault.LoadFault.TheVariants as fault
use Rattle.table_state.specs.Files.{data_file_at}
use Rattle.table_metadata.specs.ById.{schema_with}
use Rattle.table_state.specs.Live.{data_files_of, data_rows, is_data, rows_of_branch}
use Rattle.table_state.specs.declared.state.State.{State}
use Rattle.table_state.specs.States.{IsStateOf}
use Rattle.change_sets.specs.declared.change.ChangeSet.{ChangeSet}
use Rattle.change_sets.specs.declared.scanned.Decisions.{Decisions}
use Rattle.change_sets.specs.declared.scanned.ScannedFile.{ScannedFile}
use Rattle.change_sets.specs.Laid.{without}
use Rattle.table_scan.proofs.CallerLemmas.{is_parted, leaves, hits_decide, hits_refuse, itself, same_path, kept_by_filter}
use Rattle.table_scan.specs.Scanning.{scanned_at}
use Rattle.cow_writer.proofs.CallerLemmas.{copies_hold}
use Rattle.cow_writer.specs.Copies.{behind, change_of, entries_from, schema_of}
use Rattle.change_sets.specs.Deciding.{written_of}
use Rattle.commit_builder.specs.declared.commit.Prepared.{Prepared}
use Rattle.commit_builder.specs.Commits.{files_after, live_in}
use Rattle.commit_builder.proofs.CallerLemmas.{next_rows, rows_kept}
use Rattle.commit_builder.specs.Contents.{HasContents}
use Rattle.branch_commit.proofs.FalseFilter.{nothing_scanned}
use Rattle.branch_commit.proofs.Loads.{loaded_rows, same_head, same_parts}
use Rattle.branch_commit.proofs.RowsRead.{rows_are}
use Rattle.branch_commit.specs.Committing.{IsPlanned, IsPrepared, IsWritten, change_by, columns_of, decided_by, filter_on, width_of}

-- ---- the current schema, the files of a head, and what a copy adds

schema_is : (f : LoadFault) (found : Option TableSchema) (schema other : TableSchema) → or_fault f found ≡ Ok schema → by_option found (λ s. s) other ≡ schema
schema_is f (Some s) schema other e = cc
schema_is f None schema other e = absurd cc

live_files : (head : BranchState) → (live_in head).data_files ≡ data_files_of head
live_files state.Absent = refl
live_files state.Empty = refl
live_files (state.Head snapshot manifests live) = refl

data_entries : (metadata : Metadata) (names : Names) (pieces : List (List (List Value))) → list_all is_data (entries_from metadata names pieces) ≡ true
unfolding entries_from
data_entries metadata names [] = refl
data_entries metadata names (rows ∷ pieces) = data_entries metadata (behind 1 names) pieces

has_contents : (base : State) (scanned : List ScannedFile) (decisions : Decisions) (pred : Pred) (names : Names)
    → HasContents (change_of base scanned decisions pred names)
has_contents base scanned decisions pred names = record { added_data = data_entries base.metadata names _; added_deletes = refl }

-- ---- the statement on the rows of its branch

module _ (base : State) (sources : List Source) (s : Statement) (scanned : List ScannedFile) (names : Names) (planned written : Files)
    (rows : List (List Value)) (is : IsPlanned base sources s scanned planned) (wrote : IsWritten base sources s scanned names planned written)
    (held : rows_of_branch base.table base.version base.branch planned ≡ Ok rows) where
  abbrev p : Parts
  p = parts base.metadata

  abbrev entries : List Entry
  entries = data_files_of base.head

  base_rows : data_rows base.table p [] entries planned ≡ Ok rows
  base_rows = loaded_rows base.table base.branch base.version planned base rows is.loaded held

  same_schema : schema_of base.metadata ≡ wrote.read.schema
  same_schema = schema_is (fault.Metadata (metadata_fault.Shape (codes "current-schema-id"))) (schema_with base.metadata.current_schema base.metadata.schemas) wrote.read.schema (record { id = base.metadata.current_schema; columns = [] }) wrote.read.current

  wide : IsTrue (are_wide (width_of base) rows)
  wide = rows_are_wide (columns_of base) rows (subst (λ (schema : TableSchema). AreRows schema.columns rows) (sym same_schema) (rows_are base.table p planned wrote.read.schema wrote.read.current entries rows base_rows))

  scan : scanned_at base.table p (filter_on base s) entries planned ≡ Ok scanned
  scan =
      ⊎_elim (λ none. ap (λ (pred : Pred). scanned_at base.table p pred entries planned) none.0 ∙ nothing_scanned base.table p planned entries rows base_rows ∙ ap Ok (sym none.1))
      (λ found. found) is.reads

  pub is_accepted : result_of (columns_of base) sources s rows ≡ Ok (rows_after (width_of base) sources s rows)
  is_accepted =
      let accepted : refusal (columns_of base) sources s rows ≡ None = hits_refuse base.table p planned s (columns_of base) entries scanned rows scan base_rows wide sources ∙ is.accepted in
      ap (λ (why : Option SqlRefusal). unless_refused why (rows_after (width_of base) sources s rows)) accepted

  -- the rows of the files that stay, and those that are written
  pub copied : (rest : List (List Value))
      × (data_rows base.table p [] (without (change_by base scanned sources s names).removed entries) planned ≡ Ok rest)
      × SameBag (rest ++ written_of scanned (decided_by base scanned sources s)) (rows_after (width_of base) sources s rows)
  copied =
      let whole = leaves itself same_path base.table p (filter_on base s) planned sources s entries scanned (width_of base) rows (is_parted base.table p (filter_on base s) planned entries scanned scan) scan base_rows (kept_by_filter (width_of base) sources s) wide in
      let decided = hits_decide base.table p planned s (width_of base) entries scanned rows scan base_rows wide sources in
      (whole.0, whole.1, subst (λ (d : Decisions). SameBag (whole.0 ++ written_of scanned d) (rows_after (width_of base) sources s rows)) decided whole.2)

-- ---- and its commit

module _ (base head : State) (sources : List Source) (s : Statement) (scanned : List ScannedFile) (names drawn : Names) (now : ℤ)
    (planned written ready later : Files) (prepared : Prepared) (rows : List (List Value)) (table : head.table ≡ base.table)
    (version : head.version ≡ base.version) (branch : head.branch ≡ base.branch)
    (is : IsPlanned base sources s scanned planned) (wrote : IsWritten base sources s scanned names planned written)
    (kept : KeepsFiles (Some planned) (Some written)) (still : KeepsFiles (Some written) (Some ready))
    (prepares : IsPrepared head (change_by base scanned sources s names) drawn now ready prepared)
    (keeps : KeepsFiles (Some (files_after head (change_by base scanned sources s names) drawn ready)) (Some later)) (stands : map.get later (version_name head.table (head.version + 1)) ≡ Some prepared.bytes) (held : rows_of_branch base.table base.version base.branch planned ≡ Ok rows) where
  abbrev change : ChangeSet
  change = change_by base scanned sources s names

  abbrev made : List (List Value)
  made = written_of scanned (decided_by base scanned sources s)

  to_ready : KeepsFiles (Some planned) (Some ready)
  to_ready = λ name bytes there. still name bytes (kept name bytes there)

  -- the head is the branch that the statement was planned on
  again : IsStateOf base.table base.version base.branch ready head
  again =
      subst (λ (t : List ℕ). IsStateOf t base.version base.branch ready head) table
      (subst (λ (v : ℕ). IsStateOf head.table v base.branch ready head) version
      (subst (λ (b : List ℕ). IsStateOf head.table head.version b ready head) branch prepares.loaded))

  same_files : (live_in head.head).data_files ≡ data_files_of base.head
  same_files = live_files head.head ∙ sym (ap data_files_of (same_head base.table base.branch base.version planned ready to_ready base head is.loaded again))

  same_read : (path : List ℕ) (files : Files)
      → data_file_at base.table (parts head.metadata) path files ≡ data_file_at base.table (parts base.metadata) path files
  same_read path files = ap (λ (q : Parts). data_file_at base.table q path files) (sym (same_parts base.table base.branch base.version planned ready to_ready base head is.loaded again))

  statement : (rest : List (List Value)) × (data_rows base.table (parts base.metadata)
      [] (without change.removed (data_files_of base.head)) planned ≡ Ok rest)
      × SameBag (rest ++ made) (rows_after (width_of base) sources s rows)
  statement = copied base sources s scanned names planned written rows is wrote held

  left_read : data_rows head.table (parts head.metadata) [] (without change.removed (live_in head.head).data_files) ready ≡ Ok statement.0
  left_read =
      ap (λ (t : List ℕ). data_rows t (parts head.metadata) [] (without change.removed (live_in head.head).data_files) ready) table
      ∙ ap (λ (entries : List Entry). data_rows base.table (parts head.metadata) [] (without change.removed entries) ready) same_files
      ∙ rows_kept base.table (parts base.metadata) (parts head.metadata) planned ready to_ready same_read [] (without change.removed (data_files_of base.head)) statement.0 statement.1

  made_read : data_rows head.table (parts head.metadata) [] change.added_data ready ≡ Ok made
  made_read =
      let copies = copies_hold base scanned (decided_by base scanned sources s) (filter_on base s) names planned wrote.read wrote.fits in
      ap (λ (t : List ℕ). data_rows t (parts head.metadata) [] change.added_data ready) table
      ∙ rows_kept base.table (parts base.metadata) (parts head.metadata) written ready still same_read [] change.added_data made
      (ap (λ (files : Files). data_rows base.table (parts base.metadata) [] change.added_data files) wrote.files ∙ copies)

  abbrev Leaves : Type 0
  Leaves = (found : List (List Value)) × (rows_of_branch base.table (base.version + 1) base.branch later ≡ Ok found) × SameBag found (rows_after (width_of base) sources s rows)

  at_base : rows_of_branch head.table (head.version + 1) head.branch later ≡ rows_of_branch base.table (base.version + 1) base.branch later
  at_base =
      ap (λ (t : List ℕ). rows_of_branch t (head.version + 1) head.branch later) table
      ∙ ap (λ (v : ℕ). rows_of_branch base.table (v + 1) head.branch later) version
      ∙ ap (λ (b : List ℕ). rows_of_branch base.table (base.version + 1) b later) branch

  next : Leaves
  next =
      let contents = has_contents base scanned (decided_by base scanned sources s) (filter_on base s) names in
      let laid = next_rows head change drawn now ready ready later prepared statement.0 made prepares.loaded (λ name bytes there. there) prepares.free prepares.named prepares.few prepares.spelled prepares.laid_on contents prepares.prepares keeps stands left_read made_read in
      (laid.0, sym at_base ∙ laid.1, SameBag-trans laid.0 (statement.0 ++ made) (rows_after (width_of base) sources s rows) laid.2 statement.2)

  pub committed : (result_of (columns_of base) sources s rows ≡ Ok (rows_after (width_of base) sources s rows)) × Leaves
  committed = (is_accepted base sources s scanned names planned written rows is wrote held, next)
