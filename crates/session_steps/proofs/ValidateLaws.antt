-- A validation leaves the table open as it was, and the step is the machine's: the statement goes on with the next version, or it
-- is answered, and leaves the rows as they were.
use Rattle.std.proofs.Common.{◌≡◌, ◌≢◌, ◌+◌, ◌<◌, ◌≤◌, ◌^◌, ℕ, ℤ, Bool, true, List, Option, Some, None, Result, Ok, codes, refl, ap, sym, subst, ◌∙◌, ⊎_elim, inl, inr, arith}
use Rattle.std.specs.FinMap as map
use Rattle.std.specs.Option.{ForSome}
use Rattle.plain_types.proofs.CallerLemmas.{SameBag-refl, one_value}
use Rattle.plain_types.specs.Bags.{SameBag}
use Rattle.plain_types.specs.Steps.{◌>>=◌}
use Rattle.row_values.specs.declared.schema.Column.{Column}
use Rattle.row_values.specs.declared.schema.TableSchema.{TableSchema}
use Rattle.row_values.specs.declared.value.Value.{Value}
use Rattle.sql_statements.specs.declared.statement.Source.{Source}
use Rattle.sql_statements.specs.declared.statement.Statement.{Statement}
use Rattle.sql_statements.specs.Effects.{refusal, result_of}
use Rattle.sql_statements.specs.Tables.{branch_of}
use Rattle.store_core.specs.Files.{Files, KeepsFiles}
use Rattle.table_names.specs.declared.names.Names.{Names}
use Rattle.table_names.specs.FileNames.{NoneFrom, metadata_name}
use Rattle.change_sets.specs.declared.said.Said.{Said}
use Rattle.change_sets.specs.declared.said.Said.TheVariants as said
use Rattle.session_machine.specs.declared.event.Stepped.{Stepped}
use Rattle.table_metadata.specs.Metadata.{Parts, parts}
use Rattle.iceberg_schema.specs.Widths.{IsLong}
use Rattle.table_names.specs.Versions.{version_of, version_of_name, version_prefix}
use Rattle.table_state.specs.declared.load_fault.LoadFault.{LoadFault}
use Rattle.table_state.specs.Files.{current_schema}
use Rattle.table_state.specs.Live.{data_files_of, rows_at, rows_of_branch}
use Rattle.table_state.specs.declared.state.State.{State}
use Rattle.table_state.specs.States.{IsStateOf}
use Rattle.change_sets.specs.declared.change.Plan.{Plan}
use Rattle.change_sets.specs.declared.scanned.ScannedFile.{ScannedFile}
use Rattle.table_scan.proofs.CallerLemmas.{scan_stands, hits_refuse}
use Rattle.commit_builder.specs.declared.commit.Prepared.{Prepared}
use Rattle.commit_builder.specs.Commits.{files_after}
use Rattle.commit_builder.specs.NextVersion.{AreNames}
use Rattle.commit_builder.specs.Puts.{PutsManifests}
use Rattle.change_sets.specs.Verdict.{verdict}
use Rattle.branch_commit.proofs.CallerLemmas.{states_stand}
use Rattle.branch_commit.specs.Committing.{IsScanned, columns_of, filter_on}
use Rattle.branch_commit.specs.declared.found.Found.{Found}
use Rattle.branch_commit.specs.declared.found.Found.TheVariants as found
use Rattle.branch_commit.specs.declared.found.Validated.{Validated}
use Rattle.branch_commit.specs.Current.{IsCurrent}
use Rattle.branch_commit.specs.Validation.{IsLaid, IsSaid, IsValidated, is_no_change}
use Rattle.session_machine.specs.declared.place.Phase.TheVariants as phase
use Rattle.session_machine.specs.declared.place.Place.{Place}
use Rattle.session_machine.specs.Machine.{Turned, good_turn, turn_of, validate_turn}
use Rattle.session_machine.specs.Sights.{keeps_all, keeps_at, verdict_at}
use Rattle.branch_commit.specs.declared.outcome.Pending.{Pending}
use Rattle.session_steps.proofs.NoVersions.{of_metadata}
use Rattle.session_steps.proofs.StaysOpen.{stays_open}
use Rattle.session_steps.specs.Open.{IsOpen}
use Rattle.session_steps.specs.Work.{IsPending, IsSwapping}
use Rattle.session_steps.proofs.Keeping.{leaves_all}
use Rattle.session_steps.proofs.Loaded.{are_as_wide, base_rows, columns_are, one_current, scan_is}
use Rattle.session_steps.proofs.VerdictsFound.{keeps_found, verdict_found}
use Rattle.session_steps.specs.Choices.{is_unchanged, prepared_of, said_of}
use Rattle.session_steps.specs.Steps.{HasPending, InPhase, IsStep, LeavesRows}
use Rattle.session_steps.specs.declared.session.Session.{Session}

-- ---- files

not_both : (n : ℕ) → n ≡ 0 → 0 < n → ⊥
not_both n none some = omega (arith, none, some)

-- a name of a version is none of a file that a commit puts
apart : (table : List ℕ) (names : Names) (name : List ℕ) → 0 < version_of_name (version_prefix table) name → (n : ℕ)
    → name ≢ metadata_name table names.run names.session n
apart table names name is_version n same = not_both (version_of_name (version_prefix table) name) (ap (version_of_name (version_prefix table)) same ∙ of_metadata table names.session names.run n) is_version

versions_stay : (table : List ℕ) (names : Names) (old new : Files) → PutsManifests table names (Some old) (Some new)
    → (name : List ℕ) → 0 < version_of_name (version_prefix table) name → map.get new name ≡ map.get old name
versions_stay table names old new others name is_version = others name (λ n from. apart table names name is_version n)

-- ---- of a statement that was planned on the open table

module _ (table : List ℕ) (schema : TableSchema) (sources : List Source) (s : Statement) (old : Files) (current : ℕ) (pending : Pending) (was : IsOpen table schema old current) (main : branch_of s ≡ codes "main") (pends : IsPending table schema sources s old pending) where
  abbrev base : State
  base = pending.base

  abbrev p : Parts
  p = parts base.metadata

  abbrev scanned : List ScannedFile
  scanned = pends.ready.scanned

  base_version : base.version ≡ current
  base_version = one_current base.version current (version_of table old) pends.newest was.newest

  plan_branch : pending.plan.branch ≡ branch_of s
  plan_branch = ap (λ (plan : Plan). plan.branch) pends.ready.fixed

  -- ---- what it keeps

  told_by : (version : ℕ) → version ≡ current → rows_of_branch table version (branch_of s) old ≡ Ok was.rows
  told_by version same =
      subst (λ (branch : List ℕ). rows_of_branch table version branch old ≡ Ok was.rows) (sym main)
      (subst (λ (v : ℕ). rows_of_branch table v (codes "main") old ≡ Ok was.rows) (sym same) was.told)

  rows_read : rows_at table was.held (branch_of s) old ≡ Ok was.rows
  unfolding rows_of_branch
  rows_read = sym (ap (λ (r : Result Parts LoadFault). r >>= λ q. rows_at table q (branch_of s) old) was.read) ∙ told_by current refl

  keeps_by_rows : keeps_at table sources s old current ≡ Ok (keeps_all sources s schema.columns was.rows)
  unfolding keeps_at
  keeps_by_rows =
      ap (λ (r : Result Parts LoadFault). r >>= λ q. current_schema q >>= λ now. rows_at table q (branch_of s) old >>= λ rows. Ok (keeps_all sources s now.columns rows)) was.read
      ∙ ap (λ (r : Result TableSchema LoadFault). r >>= λ now. rows_at table was.held (branch_of s) old >>= λ rows. Ok (keeps_all sources s now.columns rows)) was.by_schema
      ∙ ap (λ (r : Result (List (List Value)) LoadFault). r >>= λ rows. Ok (keeps_all sources s schema.columns rows)) rows_read

  keeps_same : keeps_all sources s schema.columns was.rows ≡ is_no_change pending.change
  keeps_same =
      one_value (keeps_all sources s schema.columns was.rows) (is_no_change pending.change) (keeps_at table sources s old current) keeps_by_rows
      (subst (λ (v : ℕ). keeps_at table sources s old v ≡ Ok (is_no_change pending.change)) base_version (keeps_found table schema sources s old current pending was main pends))

  -- ---- why it is not refused

  to_old : KeepsFiles (Some pends.old) (Some old)
  to_old = λ name bytes there. pends.stays name bytes (pends.kept name bytes there)

  stands : IsStateOf table base.version (branch_of s) old base
  stands = states_stand table (branch_of s) base.version pends.old old to_old base pends.loaded.state

  reads : IsScanned base s scanned old
  reads = ⊎_elim (λ none. inl none) (λ hit. inr (scan_stands pends.old old to_old base.table p (filter_on base s) (data_files_of base.head) scanned hit)) pends.ready.planned.reads

  accepted : refusal schema.columns sources s was.rows ≡ None
  accepted =
      let told : rows_of_branch table base.version (branch_of s) old ≡ Ok was.rows = told_by base.version base_version in
      subst (λ (columns : List Column). refusal columns sources s was.rows ≡ None) (columns_are base schema pends.by_schema)
      (hits_refuse table p old s (columns_of base) (data_files_of base.head) scanned was.rows
      (scan_is table (branch_of s) base.version old base stands was.rows told s scanned reads)
      (base_rows table (branch_of s) base.version old base stands was.rows told)
      (are_as_wide table (branch_of s) base.version old base stands was.rows told schema pends.by_schema)
      sources
      ∙ pends.ready.planned.accepted)

  no_change_leaves : is_no_change pending.change ≡ true → result_of schema.columns sources s was.rows ≡ Ok was.rows
  no_change_leaves none = leaves_all sources s schema.columns was.rows (keeps_same ∙ none) accepted

  -- ---- where it is validated

  module _ (new : Files) (names after : Names) (now : ℤ) (validated : Validated)
      (is : IsValidated pending.plan pending.change (data_files_of base.head) names now table old (Some new) after validated)
      (others : PutsManifests table names (Some old) (Some new)) (kept : KeepsFiles (Some old) (Some new)) where
    abbrev verdict_is : Said
    verdict_is = verdict pending.plan pending.change.depended (data_files_of base.head) is.head.head

    abbrev IsAt : Said → Found → Type 0
    IsAt words f = IsSaid pending.plan pending.change (data_files_of base.head) names now words is.head old (Some new) after f

    stays : (still : IsOpen table schema new current) × (still.rows ≡ was.rows)
    stays = stays_open table schema old new current was kept (versions_stay table names old new others)

    loaded : IsCurrent table (branch_of s) old is.head
    loaded = subst (λ (branch : List ℕ). IsCurrent table branch old is.head) plan_branch is.loaded

    at_current : validated.version ≡ current
    at_current = is.at ∙ one_current is.head.version current (version_of table old) loaded.current was.newest

    laid_good : (words : Said) (prepared : Prepared) → IsAt words (found.Good prepared)
        → IsLaid pending.plan pending.change names now is.head old (Some new) after (found.Good prepared)
    laid_good said.Good prepared found_so = found_so
    laid_good (said.Conflict rule name) prepared (same, files_same, names_same) = absurd cc

    no_change_is : (words : Said) → IsAt words found.Unchanged → is_no_change pending.change ≡ true
    no_change_is said.Good found_so = found_so.0
    no_change_is (said.Conflict rule name) (same, files_same, names_same) = absurd cc

    -- ---- the machine's step

    module _ (place : Place) where
      abbrev found_turn : Found → Turned
      found_turn f = validate_turn validated.version place (is_unchanged f) (said_of f)

      same_turn : (words : Said) (f : Found) → IsAt words f → validate_turn validated.version place (is_no_change pending.change) words ≡ found_turn f
      same_turn said.Good (found.Good prepared) found_so = ap (good_turn validated.version place) found_so.changes
      same_turn said.Good found.Unchanged found_so = ap (good_turn validated.version place) found_so.0
      same_turn said.Good (found.Conflict rule name) found_so = absurd found_so
      same_turn (said.Conflict rule name) f found_so = sym (ap found_turn found_so.0)

      rows_left : (words : Said) (f : Found) → IsAt words f → LeavesRows sources schema.columns s (found_turn f).stepped.answer was.rows stays.0.rows
      rows_left words (found.Good prepared) found_so = stays.1
      rows_left words found.Unchanged found_so = (
        was.rows,
        no_change_leaves (no_change_is words found_so),
        subst (λ (rows : List (List Value)). SameBag rows was.rows) (sym stays.1) (SameBag-refl was.rows),
      )
      rows_left words (found.Conflict rule name) found_so = stays.1

      module _ (is_validate : place.phase ≡ phase.Validate) (planned : place.planned ≡ base.version) (next : Place) (stepped : Stepped) (turned : found_turn validated.found ≡ record { current = validated.version; place = next; stepped = stepped }) where
        turn_is : turn_of table sources old current place s place.phase ≡ Ok (record { current = current; place = next; stepped = stepped })
        turn_is =
            ap (turn_of table sources old current place s) is_validate
            ∙ ap (λ (v : ℕ). verdict_at table sources s old v current >>= λ words. keeps_at table sources s old v >>= λ keeps. Ok (validate_turn current place keeps words)) planned
            ∙ ap (λ (r : Result Said LoadFault). r >>= λ words. keeps_at table sources s old base.version >>= λ keeps. Ok (validate_turn current place keeps words)) (verdict_found table schema sources s old current pending was main pends is.head loaded)
            ∙ ap (λ (r : Result Bool LoadFault). r >>= λ keeps. Ok (validate_turn current place keeps verdict_is)) (keeps_found table schema sources s old current pending was main pends)
            ∙ ap (λ (v : ℕ). Ok (validate_turn v place (is_no_change pending.change) verdict_is)) (sym at_current)
            ∙ ap Ok (same_turn verdict_is validated.found is.is ∙ turned)
            ∙ ap (λ (v : ℕ). Ok (record { current = v; place = next; stepped = stepped })) at_current

        rows_are : LeavesRows sources schema.columns s stepped.answer was.rows stays.0.rows
        rows_are = subst (λ (t : Turned). LeavesRows sources schema.columns s t.stepped.answer was.rows stays.0.rows) turned (rows_left verdict_is validated.found is.is)

      -- ---- what the session has then

      module _ (planned : place.planned ≡ base.version) (named : AreNames names) (hour : IsLong now) (room : names.next < 2 ^ 126) (few : after.next ≤ names.next + 2 ^ 100) (free : NoneFrom table names.run names.session names.next old) where
        swapping : (words : Said) (prepared : Prepared) → IsAt words (found.Good prepared) → IsSwapping table schema sources s new pending prepared
        swapping words prepared found_so = record {
          old = old;
          put = new;
          head = is.head;
          names = names;
          after = after;
          now = now;
          pends = pends;
          loaded = loaded;
          goes_on = is.goes_on;
          laid = laid_good words prepared found_so;
          named = named;
          hour = hour;
          room = room;
          few = few;
          free = free;
          kept = kept;
          stays = λ name bytes there. there;
          newest = stays.0.newest ∙ ap Some (sym base_version);
        }

        module _ (session : Session) (prepared_is : session.prepared ≡ prepared_of validated.found) (pending_is : (prepared : Prepared) → validated.found ≡ found.Good prepared → session.pending ≡ Some pending) where
          held_by : (f : Found) → validated.found ≡ f → IsAt verdict_is f → session.place ≡ (found_turn f).place
              → InPhase table schema sources s new session (found_turn f).place.phase
          held_by (found.Good prepared) found_is found_so place_is = record {
            pending = pending;
            prepared = prepared;
            held = pending_is prepared found_is;
            made = prepared_is ∙ ap prepared_of found_is;
            planned = ap (λ (at : Place). at.planned) place_is ∙ planned;
            seen = ap (λ (at : Place). at.seen) place_is ∙ at_current ∙ sym base_version;
            work = swapping verdict_is prepared found_so;
          }
          held_by found.Unchanged found_is found_so place_is = tt
          held_by (found.Conflict rule name) found_is found_so place_is = tt

          held_then : (t : Turned) → t ≡ found_turn validated.found → session.place ≡ t.place → InPhase table schema sources s new session session.place.phase
          held_then t is_turn place_is =
              let from_found : session.place ≡ (found_turn validated.found).place = place_is ∙ ap (λ (t : Turned). t.place) is_turn in
              subst (λ (at : Place). InPhase table schema sources s new session at.phase) (sym from_found) (held_by validated.found refl is.is from_found)

          pub step_is : place.phase ≡ phase.Validate → (stepped : Stepped)
              → found_turn validated.found ≡ record { current = validated.version; place = session.place; stepped = stepped }
              → IsStep table schema sources s old new current place session stepped
          step_is is_validate stepped turned = record {
            was = was;
            next = current;
            up = omega arith;
            below = λ name is_version most. versions_stay table names old new others name is_version;
            turned = turn_is is_validate planned session.place stepped turned;
            still = stays.0;
            rows = rows_are is_validate planned session.place stepped turned;
            held = held_then (record { current = validated.version; place = session.place; stepped = stepped }) (sym turned) refl;
          }

-- ---- of a session with its plan, over any store

one_pending : (a b : Pending) (o : Option Pending) → o ≡ Some a → o ≡ Some b → a ≡ b
one_pending a b o h k = cc

module _ (table : List ℕ) (schema : TableSchema) (sources : List Source) (s : Statement) (old : Files) (current : ℕ) (before : Session)
    (was : IsOpen table schema old current) (main : branch_of s ≡ codes "main") (has : HasPending table schema sources s old before)
    (pending : Pending) (held : before.pending ≡ Some pending) where
  same_pending : has.pending ≡ pending
  same_pending = one_pending has.pending pending before.pending has.held held

  pends : IsPending table schema sources s old pending
  pends = subst (IsPending table schema sources s old) same_pending has.work

  planned : before.place.planned ≡ pending.base.version
  planned = has.planned ∙ ap (λ (one : Pending). one.base.version) same_pending

  module _ (names after : Names) (now : ℤ) (validated : Validated) (named : AreNames names) (hour : IsLong now) (room : names.next < 2 ^ 126) (few : after.next ≤ names.next + 2 ^ 100) where
    told : (head : State) (files : Option Files) (words : Said) (f : Found)
        → IsSaid pending.plan pending.change (data_files_of pending.base.head) names now words head old files after f
        → (new : Files) × (files ≡ Some new)
    told head files said.Good (found.Good prepared) is = (files_after head pending.change names old, is.files)
    told head files said.Good found.Unchanged is = (old, is.1)
    told head files said.Good (found.Conflict rule name) is = absurd is
    told head files (said.Conflict rule name) f is = (old, is.1)

    pub validation_steps : (first last : Option Files) → first ≡ Some old
        → IsValidated pending.plan pending.change (data_files_of pending.base.head) names now table old last after validated
        → ForSome first (NoneFrom table names.run names.session names.next) → PutsManifests table names first last
        → KeepsFiles first last
        → (session : Session) → session.prepared ≡ prepared_of validated.found → ((prepared : Prepared) → validated.found ≡ found.Good prepared → session.pending ≡ Some pending) → before.place.phase ≡ phase.Validate → (stepped : Stepped)
        → validate_turn validated.version before.place (is_unchanged validated.found) (said_of validated.found) ≡ record { current = validated.version; place = session.place; stepped = stepped }
        → (new : Files) × (last ≡ Some new) × IsStep table schema sources s old new current before.place session stepped
    validation_steps first last is_first is free others kept session prepared_is pending_is is_validate stepped turned =
        let both : (new : Files) × (last ≡ Some new) = told is.head last (verdict pending.plan pending.change.depended (data_files_of pending.base.head) is.head.head) validated.found is.is in
        let new : Files = both.0 in
        let is_last : last ≡ Some new = both.1 in
        let left : PutsManifests table names (Some old) (Some new) = subst (λ (o : Option Files). PutsManifests table names (Some old) o) is_last (subst (λ (o : Option Files). PutsManifests table names o last) is_first others) in
        let keeps : KeepsFiles (Some old) (Some new) = subst (λ (o : Option Files). KeepsFiles (Some old) o) is_last (subst (λ (o : Option Files). KeepsFiles o last) is_first kept) in
        let so : IsValidated pending.plan pending.change (data_files_of pending.base.head) names now table old (Some new) after validated =
        subst (λ (o : Option Files). IsValidated pending.plan pending.change (data_files_of pending.base.head) names now table old o after validated) is_last is
        in (new, is_last, step_is table schema sources s old current pending was main pends new names after now validated so left keeps before.place planned named hour room few (free old is_first) session prepared_is pending_is is_validate stepped turned)
