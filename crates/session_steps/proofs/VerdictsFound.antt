-- The machine's verdict on a statement is that of its plan and its change, and it says of the statement what its change says.
use Rattle.std.proofs.Common.{◌≡◌, ℕ, ⊎_elim, codes, List, length, map, Some, Result, Ok, sym, ap, subst, ◌∙◌, inl, inr}
use Rattle.plain_types.specs.Steps.{◌>>=◌}
use Rattle.row_values.specs.declared.schema.Column.{Column}
use Rattle.row_values.specs.declared.schema.TableSchema.{TableSchema}
use Rattle.row_values.specs.declared.value.Value.{Value}
use Rattle.sql_statements.specs.declared.statement.Source.{Source}
use Rattle.sql_statements.specs.declared.statement.Statement.{Statement}
use Rattle.sql_statements.specs.Filter.{filter_of}
use Rattle.sql_statements.specs.Tables.{branch_of}
use Rattle.store_core.specs.Files.{Files, KeepsFiles}
use Rattle.manifest_files.specs.declared.entry.Entry.{Entry}
use Rattle.table_metadata.specs.Metadata.{Parts, parts}
use Rattle.table_names.specs.Versions.{version_of}
use Rattle.table_state.specs.declared.live_set.BranchState.{BranchState}
use Rattle.table_state.specs.declared.load_fault.LoadFault.{LoadFault}
use Rattle.table_state.specs.Files.{current_schema, version_at}
use Rattle.table_state.specs.Live.{branch_at, data_files_of, rows_at, rows_of_branch}
use Rattle.table_state.specs.declared.state.State.{State}
use Rattle.table_state.specs.States.{IsStateOf}
use Rattle.change_sets.specs.declared.change.ChangeSet.{ChangeSet}
use Rattle.change_sets.specs.declared.change.Plan.{Plan}
use Rattle.change_sets.specs.declared.scanned.ScannedFile.{ScannedFile}
use Rattle.change_sets.specs.Scanned.{entry_of}
use Rattle.table_scan.proofs.CallerLemmas.{scan_stands}
use Rattle.table_scan.specs.Scanning.{scanned_at}
use Rattle.change_sets.specs.Verdict.{verdict}
use Rattle.branch_commit.proofs.CallerLemmas.{states_stand}
use Rattle.branch_commit.specs.Committing.{IsScanned, columns_of, filter_on}
use Rattle.branch_commit.specs.Current.{IsCurrent}
use Rattle.branch_commit.specs.Validation.{is_no_change}
use Rattle.session_machine.specs.Plans.{plan_by}
use Rattle.session_machine.specs.Sights.{depended_on, keeps_all, keeps_at, verdict_at}
use Rattle.branch_commit.specs.declared.outcome.Pending.{Pending}
use Rattle.session_steps.specs.Open.{IsOpen}
use Rattle.session_steps.specs.Work.{IsPending}
use Rattle.session_steps.proofs.Changes.{keeps_is}
use Rattle.session_steps.proofs.Loaded.{are_as_wide, base_rows, columns_are, one_current, rows_are_at, scan_is, version_is}
use Rattle.session_steps.proofs.PlansFound.{at_current}

module _ (table : List ℕ) (schema : TableSchema) (sources : List Source) (s : Statement) (files : Files) (current : ℕ) (pending : Pending) (is : IsOpen table schema files current) (main : branch_of s ≡ codes "main") (pends : IsPending table schema sources s files pending) where
  abbrev base : State
  base = pending.base

  abbrev p : Parts
  p = parts base.metadata

  abbrev scanned : List ScannedFile
  scanned = pends.ready.scanned

  version_same : base.version ≡ current
  version_same = one_current base.version current (version_of table files) pends.newest is.newest

  -- what the statement was planned on stands
  to_files : KeepsFiles (Some pends.old) (Some files)
  to_files = λ name bytes there. pends.stays name bytes (pends.kept name bytes there)

  stands : IsStateOf table base.version (branch_of s) files base
  stands = states_stand table (branch_of s) base.version pends.old files to_files base pends.loaded.state

  told : rows_of_branch table base.version (branch_of s) files ≡ Ok is.rows
  told =
      subst (λ (branch : List ℕ). rows_of_branch table base.version branch files ≡ Ok is.rows) (sym main)
      (subst (λ (v : ℕ). rows_of_branch table v (codes "main") files ≡ Ok is.rows) (sym version_same) is.told)

  reads : IsScanned base s scanned files
  reads = ⊎_elim (λ none. inl none) (λ found. inr (scan_stands pends.old files to_files base.table p (filter_on base s) (data_files_of base.head) scanned found)) pends.ready.planned.reads

  scan : scanned_at table p (filter_on base s) (data_files_of base.head) files ≡ Ok scanned
  scan = scan_is table (branch_of s) base.version files base stands is.rows told s scanned reads

  abbrev columns_same : columns_of base ≡ schema.columns
  columns_same = columns_are base schema pends.by_schema

  -- ---- whether it keeps all

  pub keeps_found : keeps_at table sources s files base.version ≡ Ok (is_no_change pending.change)
  unfolding keeps_at
  keeps_found =
      ap (λ (r : Result Parts LoadFault). r >>= λ q. current_schema q >>= λ found. rows_at table q (branch_of s) files >>= λ rows. Ok (keeps_all sources s found.columns rows)) (version_is table (branch_of s) base.version files base stands)
      ∙ ap (λ (r : Result TableSchema LoadFault). r >>= λ found. rows_at table p (branch_of s) files >>= λ rows. Ok (keeps_all sources s found.columns rows)) pends.by_schema
      ∙ ap (λ (r : Result (List (List Value)) LoadFault). r >>= λ rows. Ok (keeps_all sources s schema.columns rows)) (rows_are_at table (branch_of s) base.version files base stands is.rows told)
      ∙ ap (λ (columns : List Column). Ok (keeps_all sources s columns is.rows)) (sym columns_same)
      ∙ ap Ok (keeps_is base files sources s scanned pends.names is.rows table scan
      (base_rows table (branch_of s) base.version files base stands is.rows told)
      (are_as_wide table (branch_of s) base.version files base stands is.rows told schema pends.by_schema))
      ∙ ap (λ (change : ChangeSet). Ok (is_no_change change)) (sym pends.ready.change)

  -- ---- the verdict

  depended_is : depended_on table sources s files p base.head ≡ Ok (map entry_of scanned)
  depended_is =
      ap (λ (r : Result TableSchema LoadFault). r >>= λ found. scanned_at table p (filter_of (length found.columns) s) (data_files_of base.head) files >>= λ all. Ok (map entry_of all)) pends.by_schema
      ∙ ap (λ (columns : List Column). scanned_at table p (filter_of (length columns) s) (data_files_of base.head) files >>= λ all. Ok (map entry_of all)) (sym columns_same)
      ∙ ap (λ (r : Result (List ScannedFile) LoadFault). r >>= λ all. Ok (map entry_of all)) scan

  module _ (head : State) (loaded : IsCurrent table (branch_of s) files head) where
    again : IsStateOf table current (branch_of s) files head
    again = at_current table schema s files current head is loaded

    pub verdict_found : verdict_at table sources s files base.version current ≡ Ok (verdict pending.plan pending.change.depended (data_files_of base.head) head.head)
    unfolding verdict_at
    verdict_found =
        ap (λ (r : Result Parts LoadFault). r >>= λ q. branch_at table q
        (branch_of s) files >>= λ was. depended_on table sources s files q was >>= λ depended. version_at table current files >>= λ now. branch_at table now
        (branch_of s) files >>= λ found. Ok (verdict (plan_by base.version q.properties s) depended (data_files_of was) found))
        (version_is table (branch_of s) base.version files base stands)
        ∙ ap (λ (r : Result BranchState LoadFault). r >>= λ was. depended_on table sources s files p was >>= λ depended. version_at table current files >>= λ now. branch_at table now
        (branch_of s) files >>= λ found. Ok (verdict (plan_by base.version p.properties s) depended (data_files_of was) found)) stands.head
        ∙ ap (λ (r : Result (List Entry) LoadFault). r >>= λ depended. version_at table current files >>= λ now. branch_at table now (branch_of s) files >>= λ found. Ok (verdict (plan_by base.version p.properties s) depended (data_files_of base.head) found)) depended_is
        ∙ ap (λ (r : Result Parts LoadFault). r >>= λ now. branch_at table now (branch_of s) files >>= λ found. Ok (verdict (plan_by base.version p.properties s) (map entry_of scanned) (data_files_of base.head) found)) (version_is table (branch_of s) current files head again)
        ∙ ap (λ (r : Result BranchState LoadFault). r >>= λ found. Ok (verdict (plan_by base.version p.properties s) (map entry_of scanned) (data_files_of base.head) found)) again.head
        ∙ ap (λ (plan : Plan). Ok (verdict plan (map entry_of scanned) (data_files_of base.head) head.head)) (sym pends.ready.fixed)
        ∙ ap (λ (change : ChangeSet). Ok (verdict pending.plan change.depended (data_files_of base.head) head.head)) (sym pends.ready.change)
