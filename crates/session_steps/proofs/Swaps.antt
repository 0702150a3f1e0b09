-- Where the version that a session prepared is swapped in, the table is open at it, and nothing else is changed.
use Rattle.std.proofs.Common.{◌≡◌, ◌≢◌, ◌≤◌, ◌+◌, ℕ, Bool, cond, is_some, List, Option, Some, None, Result, Ok, codes, length, refl, sym, ap, subst, ◌∙◌, arith}
use Rattle.std.specs.FinMap as map
use Rattle.std.proofs.lemmas.Bool.{eq-eqb}
use Rattle.plain_types.specs.Bags.{SameBag}
use Rattle.plain_types.specs.Steps.{◌>>=◌}
use Rattle.row_values.specs.declared.schema.TableSchema.{TableSchema}
use Rattle.sql_statements.specs.declared.statement.Source.{Source}
use Rattle.sql_statements.specs.declared.statement.Statement.{Statement}
use Rattle.sql_statements.specs.Effects.{result_of, rows_after}
use Rattle.sql_statements.specs.Tables.{branch_of}
use Rattle.store_core.proofs.CallerLemmas.{kept-swapped}
use Rattle.store_core.specs.Files.{Files, swapped, with_file}
use Rattle.table_names.proofs.CallerLemmas.{stands, stays, is_of}
use Rattle.table_names.specs.FileNames.{NoneFrom, data_name, metadata_name}
use Rattle.session_machine.specs.declared.answer.Answer.{Answer}
use Rattle.session_machine.specs.declared.event.Stepped.{Stepped}
use Rattle.table_metadata.specs.Metadata.{Parts, parts}
use Rattle.table_names.specs.Versions.{version_of_name, version_prefix}
use Rattle.table_state.specs.declared.load_fault.LoadFault.{LoadFault}
use Rattle.table_state.specs.Files.{version_at}
use Rattle.commit_builder.specs.declared.commit.Prepared.{Prepared}
use Rattle.session_machine.specs.declared.place.Phase.{Phase}
use Rattle.session_machine.specs.declared.place.Phase.TheVariants as phase
use Rattle.session_machine.specs.Machine.{Turned, lost_turn, swap_turn, turn_of, won_turn}
use Rattle.session_steps.proofs.NoVersions.{of_data, of_metadata}
use Rattle.session_steps.specs.Open.{IsOpen}
use Rattle.session_steps.proofs.NextOpen.{stays_open}
use Rattle.session_steps.proofs.OneTable.{base_read}
use Rattle.session_steps.proofs.OneVersion.{base_version, missing, name, small}
use Rattle.session_steps.specs.declared.session.Session.{Session}
use Rattle.session_steps.specs.Steps.{HasPrepared, InPhase, IsCarriedOut, IsCommitted, IsStep, KeepsVersions, LeavesRows}

-- ---- a swap under a name that is not there

swapped_by : (files : Files) (q bytes : List ℕ) (held : Option (List ℕ)) → held ≡ None
    → cond (is_some held) files (with_file q bytes files) ≡ with_file q bytes files
swapped_by files q bytes None none = refl
swapped_by files q bytes (Some old) none = absurd cc

is_added : (files : Files) (q bytes : List ℕ) → map.get files q ≡ None → swapped q bytes files ≡ with_file q bytes files
is_added files q bytes none = swapped_by files q bytes (map.get files q) none

module _ (table : List ℕ) (schema : TableSchema) (sources : List Source) (s : Statement) (files : Files) (current : ℕ) (session : Session) (was : IsOpen table schema files current) (has : HasPrepared table schema sources s files session) where
  abbrev version : Prepared
  version = has.prepared

  abbrev later : Files
  later = swapped version.name version.bytes files

  pub is_missing : map.get files version.name ≡ None
  is_missing = missing table schema sources s files current has.pending version was has.work

  added : later ≡ with_file version.name version.bytes files
  added = is_added files version.name version.bytes is_missing

  beside : (q : List ℕ) → q ≢ version.name → map.get later q ≡ map.get files q
  beside q other = ap (λ (f : Files). map.get f q) added ∙ stays files version.name version.bytes q other

  -- ---- names of other files

  is_version : version_of_name (version_prefix table) version.name ≡ current + 1
  is_version =
      ap (version_of_name (version_prefix table)) (name table schema sources s files current has.pending version was has.work)
      ∙ is_of table (current + 1) (omega arith) (small table schema sources s files current has.pending version was has.work)

  too_late : (n : ℕ) → n ≡ current + 1 → n ≤ current → ⊥
  too_late n is most = omega (arith, is, most)

  other_name : (q : List ℕ) → version_of_name (version_prefix table) q ≡ 0 → q ≢ version.name
  other_name q none same =
      let zero_is : current + 1 ≡ 0 = sym is_version ∙ ap (version_of_name (version_prefix table)) (sym same) ∙ none in
      absurd (omega arith)

  pub same_beside : (q : List ℕ) → version_of_name (version_prefix table) q ≡ 0 → map.get later q ≡ map.get files q
  same_beside q none = beside q (other_name q none)

  pub still_free : (run : ℕ) (text : List ℕ) (from : ℕ) → NoneFrom table run text from files → NoneFrom table run text from later
  still_free run text from none = record {
    data_free = λ n above fits. same_beside (data_name table run text n) (of_data table text run n) ∙ none.data_free n above fits;
    metadata_free = λ n above fits. same_beside (metadata_name table run text n) (of_metadata table text run n) ∙ none.metadata_free n above fits;
  }

  -- ---- the table

  module _ (main : branch_of s ≡ codes "main") where
    next_open : (next : IsOpen table schema later (current + 1))
        × (result_of schema.columns sources s was.rows ≡ Ok (rows_after (length schema.columns) sources s was.rows))
        × SameBag next.rows (rows_after (length schema.columns) sources s was.rows)
    next_open =
        stays_open table schema sources s files later current has.pending version was main has.work
        (ap (λ (f : Files). map.get f version.name) added ∙ stands files version.name version.bytes)
        (kept-swapped files version.name version.bytes)
        (λ q is other. beside q other)

    carried : IsCarriedOut sources schema.columns s was.rows next_open.0.rows
    carried = (rows_after (length schema.columns) sources s was.rows, next_open.1, next_open.2)

    is_current : has.pending.base.version ≡ current
    is_current = base_version table schema sources s files current has.pending version was has.work

    seen_is : session.place.seen ≡ current
    seen_is = has.seen ∙ is_current

    -- no version up to the current one is new
    below : KeepsVersions table current files later
    below q version most = beside q (λ same. too_late (version_of_name (version_prefix table) q) (ap (version_of_name (version_prefix table)) same ∙ is_version) most)

    pub committed : IsCommitted table schema sources s files later current session.place.seen
    committed = record { was = was; saw = seen_is; below = below; next = next_open.0; rows = carried }

    -- ---- the machine

    read : version_at table session.place.planned files ≡ Ok (parts has.pending.base.metadata)
    read =
        ap (λ (n : ℕ). version_at table n files) (has.planned ∙ is_current)
        ∙ base_read table schema sources s files current has.pending version was has.work

    wins : (retries : ℕ) → swap_turn current session.place retries ≡ won_turn current session.place
    wins retries = ap (λ (b : Bool). cond b (won_turn current session.place) (lost_turn current session.place retries)) (eq-eqb session.place.seen current seen_is)

    turns : turn_of table sources files current session.place s phase.Swap ≡ Ok (won_turn current session.place)
    turns =
        ap (λ (found : Result Parts LoadFault). found >>= λ held. Ok (swap_turn current session.place held.properties.retries)) read
        ∙ ap (λ (t : Turned). (let r : Result Turned LoadFault = Ok t in r)) (wins (parts has.pending.base.metadata).properties.retries)

    module _ (after : Session) (stepped : Stepped) (swaps : session.place.phase ≡ phase.Swap) (turned : won_turn session.place.seen session.place ≡ record { current = session.place.seen + 1; place = after.place; stepped = stepped }) where
      turns_so : won_turn current session.place ≡ record { current = current + 1; place = after.place; stepped = stepped }
      turns_so = subst (λ (n : ℕ). won_turn n session.place ≡ record { current = n + 1; place = after.place; stepped = stepped }) seen_is turned

      -- the swap is won
      pub won : IsStep table schema sources s files later current session.place after stepped
      won = record {
        was = was;
        next = current + 1;
        up = omega arith;
        below = below;
        turned = ap (turn_of table sources files current session.place s) swaps ∙ turns ∙ ap (λ (t : Turned). (let r : Result Turned LoadFault = Ok t in r)) turns_so;
        still = next_open.0;
        rows = subst (λ (a : Option Answer). LeavesRows sources schema.columns s a was.rows next_open.0.rows) (ap (λ (t : Turned). t.stepped.answer) turned) carried;
        held = subst (λ (p : Phase). InPhase table schema sources s later after p) (ap (λ (t : Turned). t.place.phase) turned) tt;
      }
