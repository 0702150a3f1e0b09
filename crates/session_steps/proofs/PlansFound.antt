-- At its plan the machine answers a statement as the rows say that its filter hits.
use Rattle.std.proofs.Common.{◌≡◌, ℕ, codes, Bool, true, false, List, Option, Some, Result, Ok, option_map, sym, ap, subst, ◌∙◌}
use Rattle.std.specs.Prelude.{if◌then◌else◌}
use Rattle.plain_types.specs.Steps.{◌>>=◌}
use Rattle.row_values.specs.declared.schema.Column.{Column}
use Rattle.row_values.specs.declared.schema.TableSchema.{TableSchema}
use Rattle.row_values.specs.declared.value.Value.{Value}
use Rattle.sql_statements.specs.declared.effect.SqlRefusal.{SqlRefusal}
use Rattle.sql_statements.specs.declared.statement.Source.{Source}
use Rattle.sql_statements.specs.declared.statement.Statement.{Statement}
use Rattle.sql_statements.specs.Effects.{refusal}
use Rattle.sql_statements.specs.Tables.{branch_of}
use Rattle.store_core.specs.Files.{Files}
use Rattle.session_machine.specs.declared.answer.Answer.{Answer}
use Rattle.session_machine.specs.declared.answer.Answer.TheVariants as answer
use Rattle.plain_types.proofs.CallerLemmas.{one_value}
use Rattle.table_metadata.specs.Metadata.{Parts, parts}
use Rattle.table_names.specs.Versions.{version_of}
use Rattle.table_state.specs.declared.live_set.BranchState.{BranchState}
use Rattle.table_state.specs.declared.load_fault.LoadFault.{LoadFault}
use Rattle.table_state.specs.Files.{current_schema, version_at}
use Rattle.table_state.specs.Live.{branch_at, data_files_of, rows_at, rows_of_branch}
use Rattle.table_state.specs.declared.state.State.{State}
use Rattle.table_state.specs.States.{IsStateOf}
use Rattle.change_sets.specs.declared.scanned.ScannedFile.{ScannedFile}
use Rattle.change_sets.specs.Verdict.{is_absent}
use Rattle.table_scan.proofs.CallerLemmas.{hits_refuse}
use Rattle.table_scan.specs.Decisions.{hit_rows}
use Rattle.branch_commit.specs.Committing.{IsScanned, columns_of}
use Rattle.branch_commit.specs.Current.{IsCurrent}
use Rattle.session_machine.specs.Sights.{answer_of_branch, answer_on, plan_answer, refused_as}
use Rattle.branch_commit.specs.Planning.{HasSchema}
use Rattle.session_steps.specs.Open.{IsOpen}
use Rattle.session_steps.proofs.Loaded.{are_as_wide, base_rows, columns_are, one_current, rows_are_at, scan_is, version_is}

module _ (table : List ℕ) (schema : TableSchema) (s : Statement) (files : Files) (current : ℕ) (base : State) (is : IsOpen table schema files current) (loaded : IsCurrent table (branch_of s) files base) where
  -- a branch that is loaded is at the current version
  pub version_same : base.version ≡ current
  version_same = one_current base.version current (version_of table files) loaded.current is.newest

  pub at_current : IsStateOf table current (branch_of s) files base
  at_current = subst (λ (v : ℕ). IsStateOf table v (branch_of s) files base) version_same loaded.state

  abbrev p : Parts
  p = parts base.metadata

  pub version_read : version_at table current files ≡ Ok p
  version_read = version_is table (branch_of s) current files base at_current

  pub has_schema : HasSchema base schema
  has_schema = subst (λ (q : Parts). current_schema q ≡ Ok schema) (one_value is.held p (version_at table current files) is.read version_read) is.by_schema

  module _ (sources : List Source) where
    abbrev Answers : Type 0
    Answers = Result (Option Answer) LoadFault

    -- the machine reads what was loaded
    reads : plan_answer table sources s files current ≡ answer_of_branch table sources s files p base.head
    unfolding plan_answer
    reads =
        ap (λ (r : Result Parts LoadFault). r >>= λ q. branch_at table q (branch_of s) files >>= λ head. answer_of_branch table sources s files q head) version_read
        ∙ ap (λ (r : Result BranchState LoadFault). r >>= λ head. answer_of_branch table sources s files p head) at_current.head

    abbrev by_rows : Answers
    by_rows = current_schema p >>= λ schema. rows_at table p (branch_of s) files >>= λ rows. Ok (answer_on sources s schema.columns rows)

    abbrev by_absence : Bool → Answers
    by_absence absent = if absent then Ok (Some (answer.NoBranch (branch_of s))) else by_rows

    pub is_absent_at : is_absent base.head ≡ true → plan_answer table sources s files current ≡ Ok (Some (answer.NoBranch (branch_of s)))
    is_absent_at absent = reads ∙ ap by_absence absent

    module _ (main : branch_of s ≡ codes "main") (scanned : List ScannedFile) (present : is_absent base.head ≡ false) (scan : IsScanned base s scanned files) where
      told : rows_of_branch table current (branch_of s) files ≡ Ok is.rows
      told = subst (λ (branch : List ℕ). rows_of_branch table current branch files ≡ Ok is.rows) (sym main) is.told

      same_refusal : (columns : List Column) → columns_of base ≡ columns → refusal columns sources s is.rows ≡ refusal columns sources s (hit_rows scanned)
      same_refusal columns same =
          subst (λ (own : List Column). refusal own sources s is.rows ≡ refusal own sources s (hit_rows scanned)) same
          (hits_refuse table p files s (columns_of base) (data_files_of base.head) scanned is.rows
          (scan_is table (branch_of s) current files base at_current is.rows told s scanned scan)
          (base_rows table (branch_of s) current files base at_current is.rows told)
          (are_as_wide table (branch_of s) current files base at_current is.rows told schema has_schema)
          sources)

      pub is_found : plan_answer table sources s files current ≡ Ok (option_map (refused_as schema.columns)
          (refusal schema.columns sources s (hit_rows scanned)))
      is_found =
          reads ∙ ap by_absence present
          ∙ ap (λ (r : Result TableSchema LoadFault). r >>= λ found. rows_at table p (branch_of s) files >>= λ rows. Ok (answer_on sources s found.columns rows)) has_schema
          ∙ ap (λ (r : Result (List (List Value)) LoadFault). r >>= λ rows. Ok (answer_on sources s schema.columns rows)) (rows_are_at table (branch_of s) current files base at_current is.rows told)
          ∙ ap (λ (why : Option SqlRefusal). Ok (option_map (refused_as schema.columns) why)) (same_refusal schema.columns (columns_are base schema has_schema))
