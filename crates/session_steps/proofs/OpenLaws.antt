-- On an open table each part of a step that reads can be read: the branch, its data files, and the schema.
use Rattle.std.proofs.Common.{◌≡◌, ℕ, ⊎_elim, codes, List, [], ◌∷◌, ◌++◌, filter, Option, Result, Ok, Err, refl, sym, ap, subst, ◌∙◌}
use Rattle.plain_types.specs.Steps.{◌>>=◌, or_fault}
use Rattle.row_values.specs.declared.schema.TableSchema.{TableSchema}
use Rattle.row_values.specs.declared.value.Value.{Value}
use Rattle.sql_predicates.specs.declared.pred.Pred.{Pred}
use Rattle.sql_statements.specs.declared.statement.Statement.{Statement}
use Rattle.sql_statements.specs.Tables.{branch_of}
use Rattle.store_core.specs.Files.{Files}
use Rattle.manifest_files.specs.declared.entry.Entry.{Entry}
use Rattle.plain_types.proofs.CallerLemmas.{two_steps}
use Rattle.table_metadata.specs.Metadata.{Parts, parts}
use Rattle.table_names.specs.Versions.{version_name, version_of}
use Rattle.table_state.specs.declared.live_set.BranchState.{BranchState}
use Rattle.table_state.specs.declared.load_fault.LoadFault.{LoadFault}
use Rattle.table_state.specs.declared.load_fault.LoadFault.TheVariants as fault
use Rattle.table_state.specs.Files.{data_file_at, version_at}
use Rattle.table_state.specs.Live.{branch_at, data_files_of, data_rows, live_of, rows_at, rows_of_branch}
use Rattle.table_state.specs.declared.state.State.{State}
use Rattle.change_sets.specs.declared.scanned.ScannedFile.{ScannedFile}
use Rattle.table_scan.specs.Scanning.{file_at, files_at, has_hit, in_path_order, scanned_at, with_rows}
use Rattle.branch_commit.specs.Current.{IsCurrent, current_branch}
use Rattle.branch_commit.specs.Committing.{filter_on}
use Rattle.branch_commit.specs.Planning.{CannotRead}
use Rattle.session_steps.specs.Open.{IsOpen}
use Rattle.session_steps.proofs.Loaded.{base_rows}
use Rattle.session_steps.proofs.PlansFound.{at_current, has_schema, version_same}
use Rattle.session_steps.specs.declared.fault.RunFault.{RunFault}
use Rattle.session_steps.specs.declared.fault.RunFault.TheVariants as run
use Rattle.session_steps.specs.Faults.{CannotStep}
use Rattle.session_steps.specs.Outside.{IsOfOutside}

-- ---- where the rows can be told

-- so can the branch
branch_told : (table branch : List ℕ) (version : ℕ) (files : Files) (rows : List (List Value))
    → rows_of_branch table version branch files ≡ Ok rows → (head : BranchState) × (live_of table version branch files ≡ Ok head)
unfolding live_of rows_of_branch rows_at
branch_told table branch version files rows told =
    let read = two_steps (version_at table version files) (λ p. rows_at table p branch files) rows told in
    let found = two_steps (branch_at table read.0 branch files) (λ head. data_rows table read.0 [] (data_files_of head) files) rows read.2 in
    (found.0, ap (λ (r : Result Parts LoadFault). r >>= λ p. branch_at table p branch files) read.1 ∙ found.1)

-- and a scan of its data files, by any filter
module _ (table : List ℕ) (p : Parts) (pred : Pred) (files : Files) where
  files_told : (earlier : List ScannedFile) (before : List (List Value)) (entries : List Entry) (rows : List (List Value))
      → data_rows table p before entries files ≡ Ok rows → (all : List ScannedFile)
      × (files_at table p pred earlier entries files ≡ Ok all)
  unfolding data_rows file_at files_at
  files_told earlier before [] rows told = (earlier, refl)
  files_told earlier before (entry ∷ entries) rows told =
      let read = two_steps (data_file_at table p entry.path files) (λ found. data_rows table p (before ++ found) entries files) rows told in
      let file = with_rows pred entry read.0 in
      let rest = files_told (earlier ++ file ∷ []) (before ++ read.0) entries rows read.2 in (
        rest.0,
        ap (λ (r : Result (List (List Value)) LoadFault). (r >>= λ found. Ok (with_rows pred entry found)) >>= λ file. files_at table p pred (earlier ++ file ∷ []) entries files) read.1 ∙ rest.1,
      )

  scan_told : (entries : List Entry) (rows : List (List Value)) → data_rows table p [] entries files ≡ Ok rows
      → (scanned : List ScannedFile) × (scanned_at table p pred entries files ≡ Ok scanned)
  scan_told entries rows told =
      let all = files_told [] [] entries rows told in
      (in_path_order [] (filter has_hit all.0), ap (λ (r : Result (List ScannedFile) LoadFault). r >>= λ found. Ok (in_path_order [] (filter has_hit found))) all.1)

-- what is read has no fault
no_fault : {A : Type 0} (a : A) (f : LoadFault) (r : Result A LoadFault) → r ≡ Ok a → r ≡ Err f → ⊥
no_fault a f r e h = cc

-- ---- on an open table

module _ (table : List ℕ) (schema : TableSchema) (s : Statement) (files : Files) (current : ℕ) (main : branch_of s ≡ codes "main") (is : IsOpen table schema files current) where
  told : rows_of_branch table current (branch_of s) files ≡ Ok is.rows
  told = subst (λ (branch : List ℕ). rows_of_branch table current branch files ≡ Ok is.rows) (sym main) is.told

  branch_read : (f : LoadFault) → current_branch table (branch_of s) files ≡ Err f → ⊥
  branch_read f e =
      let found = branch_told table (branch_of s) current files is.rows told in
      let read = ap (λ (o : Option ℕ). or_fault (fault.Missing table) o >>= λ version. live_of table version (branch_of s) files) is.newest ∙ found.1 in
      no_fault found.0 f (current_branch table (branch_of s) files) read e

  module _ (base : State) (loaded : IsCurrent table (branch_of s) files base) where
    files_read : (f : LoadFault) → scanned_at base.table (parts base.metadata) (filter_on base s) (data_files_of base.head) files ≡ Err f → ⊥
    files_read f e =
        let loaded_now = at_current table schema s files current base is loaded in
        let rows = base_rows table (branch_of s) current files base loaded_now is.rows told in
        let scan = scan_told table (parts base.metadata) (filter_on base s) files (data_files_of base.head) is.rows rows in
        no_fault scan.0 f (scanned_at table (parts base.metadata) (filter_on base s) (data_files_of base.head) files) scan.1
        (subst (λ (t : List ℕ). scanned_at t (parts base.metadata) (filter_on base s) (data_files_of base.head) files ≡ Err f) loaded_now.table_name e)

    no_next : (name : List ℕ) → name ≡ version_name table base.version → name ≡ version_name table current
    no_next name named = named ∙ ap (version_name table) (version_same table schema s files current base is loaded)

  none_read : (f : LoadFault) → CannotRead table s files f → ⊥
  none_read f why = ⊎_elim (branch_read f) (λ found. files_read found.0 found.1 f found.2) why

  pub is_of_outside : (f : RunFault) → CannotStep table schema s files f → IsOfOutside table files current f
  is_of_outside run.Store why = tt
  is_of_outside (run.Unknown session statement) why = tt
  is_of_outside run.Memory why = tt
  is_of_outside (run.Table f) why = none_read f why
  is_of_outside (run.Schema name) why = why.2 (has_schema table schema s files current why.0 is why.1)
  is_of_outside (run.Limit name) why = (why.0, subst (λ (branch : List ℕ). IsCurrent table branch files why.0) main why.1, why.2, no_next why.0 why.1 name why.3)
