-- A step that the files tell is the same when files are added.
use Rattle.std.proofs.Common.{ℕ, Bool, true, false, List, Some, Ok, length, map, slice_get, if◌then◌else◌}
use Rattle.plain_types.specs.Steps.{◌>>=◌}
use Rattle.sql_statements.specs.declared.statement.Source.{Source}
use Rattle.sql_statements.specs.declared.statement.Statement.{Statement}
use Rattle.sql_statements.specs.Filter.{filter_of}
use Rattle.sql_statements.specs.Tables.{branch_of}
use Rattle.store_core.specs.Files.{Files, KeepsFiles}
use Rattle.session_machine.specs.declared.answer.Answer.TheVariants as answer
use Rattle.table_metadata.specs.Metadata.{Parts}
use Rattle.table_state.specs.declared.live_set.BranchState.{BranchState}
use Rattle.table_state.specs.Files.{current_schema, version_at}
use Rattle.table_state.specs.Live.{branch_at, data_files_of, rows_at}
use Rattle.table_state.proofs.CallerLemmas.{Stands, branch_rows_stand, branch_stands, option_stands, stands_then, version_stands}
use Rattle.change_sets.specs.Scanned.{entry_of}
use Rattle.table_scan.specs.Scanning.{scanned_at}
use Rattle.table_scan.proofs.CallerLemmas.{scan_stands}
use Rattle.change_sets.specs.Verdict.{is_absent, verdict}
use Rattle.session_machine.specs.declared.place.Phase.{Phase}
use Rattle.session_machine.specs.declared.place.Phase.TheVariants as phase
use Rattle.session_machine.specs.declared.place.Place.{Place}
use Rattle.session_machine.specs.Machine.{plan_turn, rests, swap_turn, turn, turn_of, validate_turn}
use Rattle.session_machine.specs.Plans.{plan_by}
use Rattle.session_machine.specs.Sights.{answer_of_branch, answer_on, depended_on, keeps_all, keeps_at, plan_answer, verdict_at}

module _ (now later : Files) (kept : KeepsFiles (Some now) (Some later)) (table : List ℕ) (sources : List Source) (s : Statement) where
  -- once the rows of the branch are read, by either side of a test
  answer_stands : (parts : Parts) (head : BranchState) → Stands now later kept (λ files. answer_of_branch table sources s files parts head)
  answer_stands parts head x e = by_side (is_absent head) x e where
    by_side : (absent : Bool)
        → Stands now later kept (λ files. if absent then Ok (Some (answer.NoBranch (branch_of s))) else (current_schema parts >>= λ schema. rows_at table parts (branch_of s) files >>= λ rows. Ok (answer_on sources s schema.columns rows)))
    by_side true x e = e
    by_side false x e =
        stands_then now later kept (λ files. current_schema parts) (λ schema files. rows_at table parts (branch_of s) files >>= λ rows. Ok (answer_on sources s schema.columns rows)) (λ y h. h)
        (λ schema. stands_then now later kept (λ files. rows_at table parts (branch_of s) files) (λ rows files. Ok (answer_on sources s schema.columns rows)) (branch_rows_stand now later kept table parts (branch_of s)) (λ rows y h. h)) x e

  plan_stands : (version : ℕ) → Stands now later kept (λ files. plan_answer table sources s files version)
  unfolding plan_answer
  plan_stands version x e =
      stands_then now later kept (λ files. version_at table version files) (λ parts files. branch_at table parts (branch_of s) files >>= λ head. answer_of_branch table sources s files parts head) (version_stands now later kept table version)
      (λ parts. stands_then now later kept (λ files. branch_at table parts (branch_of s) files) (λ head files. answer_of_branch table sources s files parts head) (branch_stands now later kept table parts (branch_of s)) (answer_stands parts)) x e

  depended_stands : (parts : Parts) (head : BranchState) → Stands now later kept (λ files. depended_on table sources s files parts head)
  depended_stands parts head x e =
      stands_then now later kept (λ files. current_schema parts) (λ schema files. scanned_at table parts (filter_of (length schema.columns) s) (data_files_of head) files >>= λ scanned. Ok (map entry_of scanned)) (λ y h. h)
      (λ schema. stands_then now later kept (λ files. scanned_at table parts (filter_of (length schema.columns) s) (data_files_of head) files)
      (λ scanned files. Ok (map entry_of scanned)) (scan_stands now later kept table parts (filter_of (length schema.columns) s)
      (data_files_of head)) (λ scanned y h. h)) x e

  verdict_stands : (planned version : ℕ) → Stands now later kept (λ files. verdict_at table sources s files planned version)
  unfolding verdict_at
  verdict_stands planned version x e =
      stands_then now later kept (λ files. version_at table planned files)
      (λ base_parts files. branch_at table base_parts
      (branch_of s) files >>= λ base. depended_on table sources s files base_parts base >>= λ depended. version_at table version files >>= λ parts. branch_at table parts
      (branch_of s) files >>= λ head. Ok (verdict (plan_by planned base_parts.properties s) depended (data_files_of base) head))
      (version_stands now later kept table planned)
      (λ base_parts. stands_then now later kept (λ files. branch_at table base_parts (branch_of s) files)
      (λ base files. depended_on table sources s files base_parts base >>= λ depended. version_at table version files >>= λ parts. branch_at table parts
      (branch_of s) files >>= λ head. Ok (verdict (plan_by planned base_parts.properties s) depended (data_files_of base) head))
      (branch_stands now later kept table base_parts (branch_of s))
      (λ base. stands_then now later kept (λ files. depended_on table sources s files base_parts base)
      (λ depended files. version_at table version files >>= λ parts. branch_at table parts (branch_of s) files >>= λ head. Ok
      (verdict (plan_by planned base_parts.properties s) depended (data_files_of base) head)) (depended_stands base_parts base)
      (λ depended. stands_then now later kept (λ files. version_at table version files) (λ parts files. branch_at table parts (branch_of s) files >>= λ head. Ok (verdict (plan_by planned base_parts.properties s) depended (data_files_of base) head)) (version_stands now later kept table version)
      (λ parts. stands_then now later kept (λ files. branch_at table parts (branch_of s) files) (λ head files. Ok (verdict (plan_by planned base_parts.properties s) depended (data_files_of base) head)) (branch_stands now later kept table parts (branch_of s)) (λ head y h. h))))) x e

  keeps_stands : (planned : ℕ) → Stands now later kept (λ files. keeps_at table sources s files planned)
  unfolding keeps_at
  keeps_stands planned x e =
      stands_then now later kept (λ files. version_at table planned files) (λ parts files. current_schema parts >>= λ schema. rows_at table parts (branch_of s) files >>= λ rows. Ok (keeps_all sources s schema.columns rows)) (version_stands now later kept table planned)
      (λ parts. stands_then now later kept (λ files. current_schema parts) (λ schema files. rows_at table parts (branch_of s) files >>= λ rows. Ok (keeps_all sources s schema.columns rows)) (λ y h. h)
      (λ schema. stands_then now later kept (λ files. rows_at table parts (branch_of s) files) (λ rows files. Ok (keeps_all sources s schema.columns rows)) (branch_rows_stand now later kept table parts (branch_of s)) (λ rows y h. h))) x e

  turn_of_stands : (current : ℕ) (place : Place) (p : Phase) → Stands now later kept (λ files. turn_of table sources files current place s p)
  turn_of_stands current place phase.Plan x e = stands_then now later kept (λ files. plan_answer table sources s files current) (λ answer files. Ok (plan_turn current place answer)) (plan_stands current) (λ answer y h. h) x e
  turn_of_stands current place phase.Validate x e =
      stands_then now later kept (λ files. verdict_at table sources s files place.planned current) (λ said files. keeps_at table sources s files place.planned >>= λ keeps. Ok (validate_turn current place keeps said)) (verdict_stands place.planned current)
      (λ said. stands_then now later kept (λ files. keeps_at table sources s files place.planned) (λ keeps files. Ok (validate_turn current place keeps said)) (keeps_stands place.planned) (λ keeps y h. h)) x e
  turn_of_stands current place phase.Swap x e = stands_then now later kept (λ files. version_at table place.planned files) (λ parts files. Ok (swap_turn current place parts.properties.retries)) (version_stands now later kept table place.planned) (λ parts y h. h) x e

module _ (now later : Files) (kept : KeepsFiles (Some now) (Some later)) where
  pub turn_stands : (table : List ℕ) (sources : List Source) (current : ℕ) (place : Place) (statements : List Statement)
      → Stands now later kept (λ files. turn table sources files current place statements)
  unfolding turn
  turn_stands table sources current place statements x e =
      option_stands now later kept (slice_get statements place.at) (λ s files. turn_of table sources files current place s place.phase) (Ok (rests current place)) (λ s. turn_of_stands now later kept table sources s current place place.phase) x e
