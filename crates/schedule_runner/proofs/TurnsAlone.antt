-- A session that is alone on a table: what it planned on, and what it saw, is the current version, so nothing stands against a
-- statement, and its swap wins.
use Rattle.std.proofs.Common.{◌≡◌, ◌==◌, not, ℕ, zero, suc, Bool, true, false, if◌then◌else◌, List, [], ◌∷◌, length, map, Option, Some, None, option_map, Result, Ok, slice_get, refl, sym, ap, ◌∙◌, subst, arith}
use Rattle.std.specs.List.{list_all}
use Rattle.std.proofs.lemmas.Bool.{and_parts}
use Rattle.plain_types.specs.Bags.{In}
use Rattle.plain_types.specs.Steps.{◌>>=◌, by_option}
use Rattle.row_values.specs.declared.schema.Column.{Column}
use Rattle.sql_statements.specs.declared.effect.SqlRefusal.{SqlRefusal}
use Rattle.sql_statements.specs.declared.effect.SqlRefusal.TheVariants as refused
use Rattle.sql_statements.specs.declared.statement.Source.{Source}
use Rattle.sql_statements.specs.declared.statement.Statement.{Statement}
use Rattle.sql_statements.specs.Effects.{refusal}
use Rattle.sql_statements.specs.Filter.{filter_of}
use Rattle.sql_statements.specs.Tables.{branch_of}
use Rattle.store_core.specs.Files.{Files}
use Rattle.manifest_files.specs.declared.entry.Entry.{Entry}
use Rattle.table_metadata.specs.Metadata.{Parts}
use Rattle.table_state.specs.declared.live_set.BranchState.{BranchState}
use Rattle.table_state.specs.declared.load_fault.LoadFault.{LoadFault}
use Rattle.table_state.specs.Files.{current_schema, version_at}
use Rattle.table_state.specs.Live.{branch_at, data_files_of, rows_at}
use Rattle.table_state.proofs.CallerLemmas.{two_steps}
use Rattle.change_sets.specs.declared.said.Said.{Said}
use Rattle.change_sets.specs.declared.said.Said.TheVariants as said
use Rattle.change_sets.specs.Scanned.{entry_of}
use Rattle.change_sets.specs.Verdict.{is_absent, verdict}
use Rattle.table_scan.specs.Scanning.{scanned_at}
use Rattle.session_machine.specs.declared.answer.Answer.{Answer}
use Rattle.session_machine.specs.declared.answer.Answer.TheVariants as answer
use Rattle.session_machine.specs.declared.place.Phase.{Phase}
use Rattle.session_machine.specs.declared.place.Phase.TheVariants as phase
use Rattle.session_machine.specs.declared.place.Place.{Place}
use Rattle.session_machine.specs.Machine.{Turned, good_turn, lost_turn, plan_turn, rests, swap_turn, turn, turn_of, validate_turn, won_turn}
use Rattle.session_machine.specs.Plans.{is_creation, plan_by}
use Rattle.session_machine.specs.Sights.{answer_of_branch, answer_on, depended_on, keeps_at, plan_answer, refused_as, verdict_at}
use Rattle.schedule_runner.specs.Conflicts.{is_its_own, meets_none}
use Rattle.schedule_runner.proofs.BaseLaws.{good_on_its_base}
use Rattle.schedule_runner.proofs.EntryLaws.{of_those_given}

not_true : (b : Bool) → not b ≡ true → b ≡ false
not_true true e = absurd cc
not_true false e = refl

-- what passes of each member passes of the one at hand
passes_at : {X : Type 0} (test : X → Bool) (xs : List X) (n : ℕ) (x : X) → list_all test xs ≡ true → slice_get xs n ≡ Some x → test x ≡ true
passes_at test [] n x all is = absurd cc
passes_at test (y ∷ ys) zero x all is =
    let same : y ≡ x = cc in
    ap test (sym same) ∙ (and_parts (test y) (list_all test ys) all).0
passes_at test (y ∷ ys) (suc n) x all is = passes_at test ys n x (and_parts (test y) (list_all test ys) all).1 is

-- what a statement is answered for its own sake is no conflict
pub own_meets_none : (found : Option Answer) → is_its_own found ≡ true → meets_none found ≡ true
own_meets_none None own = refl
own_meets_none (Some (answer.Committed version)) own = refl
own_meets_none (Some answer.Unchanged) own = refl
own_meets_none (Some (answer.Selected rows)) own = refl
own_meets_none (Some (answer.Conflict rule name)) own = absurd cc
own_meets_none (Some (answer.RetriesSpent count)) own = absurd cc
own_meets_none (Some answer.Cardinality) own = refl
own_meets_none (Some answer.Overflow) own = refl
own_meets_none (Some (answer.Null column)) own = refl
own_meets_none (Some (answer.NoBranch name)) own = refl
own_meets_none (Some (answer.BranchExists name)) own = refl

-- ---- what a plan answers

refusal_is_own : (columns : List Column) (why : Option SqlRefusal) → is_its_own (option_map (refused_as columns) why) ≡ true
refusal_is_own columns None = refl
refusal_is_own columns (Some refused.Cardinality) = refl
refusal_is_own columns (Some refused.Overflow) = refl
refusal_is_own columns (Some (refused.Null at)) = refl

-- a reading whose first step is known is its second
then_is : {A B E : Type 0} (r : Result A E) (f : A → Result B E) (a : A) (b : B) → r ≡ Ok a → (r >>= f) ≡ Ok b → f a ≡ Ok b
then_is r f a b is e = sym (ap (λ x. x >>= f) is) ∙ e

module _ (table : List ℕ) (sources : List Source) (s : Statement) (files : Files) where
  branch_is_own : (parts : Parts) (head : BranchState) (found : Option Answer)
      → answer_of_branch table sources s files parts head ≡ Ok found → is_its_own found ≡ true
  branch_is_own parts head found is = by (is_absent head) is where
    by : (absent : Bool)
        → (if absent then Ok (Some (answer.NoBranch (branch_of s)))
        else (current_schema parts >>= λ schema. rows_at table parts (branch_of s) files >>= λ rows. Ok
        (answer_on sources s schema.columns rows))) ≡ Ok found
        → is_its_own found ≡ true
    by true e = let same : Some (answer.NoBranch (branch_of s)) ≡ found = cc in ap is_its_own (sym same)
    by false e =
        let read = two_steps (current_schema parts) (λ schema. rows_at table parts (branch_of s) files >>= λ rows. Ok (answer_on sources s schema.columns rows)) found e in
        let told = two_steps (rows_at table parts (branch_of s) files) (λ rows. Ok (answer_on sources s read.0.columns rows)) found read.2 in
        let same : answer_on sources s read.0.columns told.0 ≡ found = cc in
        ap is_its_own (sym same) ∙ refusal_is_own read.0.columns (refusal read.0.columns sources s told.0)

  plan_is_own : (version : ℕ) (found : Option Answer) → plan_answer table sources s files version ≡ Ok found → is_its_own found ≡ true
  unfolding plan_answer
  plan_is_own version found is =
      let v = two_steps (version_at table version files) (λ parts. branch_at table parts (branch_of s) files >>= λ head. answer_of_branch table sources s files parts head) found is in
      let b = two_steps (branch_at table v.0 (branch_of s) files) (λ head. answer_of_branch table sources s files v.0 head) found v.2 in
      branch_is_own v.0 b.0 found b.2

  -- what has no answer at its plan has a branch
  is_there : (parts : Parts) (head : BranchState) → answer_of_branch table sources s files parts head ≡ Ok None → is_absent head ≡ false
  is_there parts head is = by (is_absent head) refl is where
    by : (absent : Bool) → is_absent head ≡ absent
        → (if absent then Ok (Some (answer.NoBranch (branch_of s)))
        else (current_schema parts >>= λ schema. rows_at table parts (branch_of s) files >>= λ rows. Ok
        (answer_on sources s schema.columns rows))) ≡ Ok None
        → is_absent head ≡ false
    by true same e = absurd cc
    by false same e = same

  -- ---- the verdict on it

  -- it depends on data files of its branch
  of_its_branch : (parts : Parts) (head : BranchState) (depended : List Entry)
      → depended_on table sources s files parts head ≡ Ok depended → (entry : Entry) → In entry depended → In entry (data_files_of head)
  of_its_branch parts head depended is entry there =
      let read = two_steps (current_schema parts)
      (λ schema. scanned_at table parts (filter_of (length schema.columns) s) (data_files_of head) files >>= λ scanned. Ok
      (map entry_of scanned)) depended is in
      let found = two_steps (scanned_at table parts (filter_of (length read.0.columns) s) (data_files_of head) files) (λ scanned. Ok (map entry_of scanned)) depended read.2 in
      let same : map entry_of found.0 ≡ depended = cc in
      of_those_given table parts (filter_of (length read.0.columns) s) files (data_files_of head) found.0 found.1 entry (subst (In entry) (sym same) there)

  module _ (version : ℕ) (parts : Parts) (head : BranchState) (at_version : version_at table version files ≡ Ok parts) (at_branch : branch_at table parts (branch_of s) files ≡ Ok head) where
    abbrev said_of : List Entry → Said
    said_of depended = verdict (plan_by version parts.properties s) depended (data_files_of head) head

    -- the verdict on its base, once what it depends on is read
    on_its_base : (found : Said) → verdict_at table sources s files version version ≡ Ok found
        → (depended : List Entry) × (depended_on table sources s files parts head ≡ Ok depended) × (said_of depended ≡ found)
    unfolding verdict_at
    on_its_base found is =
        let base = then_is (version_at table version files) _ parts found at_version is in
        let branch = then_is (branch_at table parts (branch_of s) files) _ head found at_branch base in
        let d = two_steps (depended_on table sources s files parts head) _ found branch in
        let again = then_is (version_at table version files) _ parts found at_version d.2 in
        let last = then_is (branch_at table parts (branch_of s) files) _ head found at_branch again in
        (d.0, d.1, cc)

    good_from : is_creation s ≡ false → is_absent head ≡ false → (found : Said)
        → verdict_at table sources s files version version ≡ Ok found → found ≡ said.Good
    good_from dml there found is =
        let v = on_its_base found is in
        sym v.2 ∙ good_on_its_base (plan_by version parts.properties s) v.0 head dml there (of_its_branch parts head v.0 v.1)

  good_alone : (version : ℕ) (found : Said) → is_creation s ≡ false → plan_answer table sources s files version ≡ Ok None
      → verdict_at table sources s files version version ≡ Ok found → found ≡ said.Good
  unfolding plan_answer
  good_alone version found dml planned is =
      let v = two_steps (version_at table version files) (λ parts. branch_at table parts (branch_of s) files >>= λ head. answer_of_branch table sources s files parts head) None planned in
      let b = two_steps (branch_at table v.0 (branch_of s) files) (λ head. answer_of_branch table sources s files v.0 head) None v.2 in
      good_from version v.0 b.0 v.1 b.1 dml (is_there v.0 b.0 b.2) found is

-- ---- its steps

module _ (table : List ℕ) (sources : List Source) (files : Files) (statements : List Statement) where
  -- what it planned on or saw is the current version, and at its validation the statement at hand had no answer on it
  abbrev pub IsAlone : ℕ → Place → Phase → Type 0
  IsAlone current place phase.Plan = Unit {0}
  IsAlone current place phase.Validate = (place.planned ≡ current) × ((s : Statement) → slice_get statements place.at ≡ Some s → plan_answer table sources s files current ≡ Ok None)
  IsAlone current place phase.Swap = place.seen ≡ current

  -- a step that answers a statement for its own sake, and leaves the session alone
  abbrev pub GoesAlone : Turned → Type 0
  GoesAlone turned = IsAlone turned.current turned.place turned.place.phase × (is_its_own turned.stepped.answer ≡ true)

  unwrapped : (made turned : Turned) → ◌≡◌ {A = Result Turned LoadFault} (Ok made) (Ok turned) → GoesAlone made → GoesAlone turned
  unwrapped made turned e h = let same : made ≡ turned = cc in subst GoesAlone same h

  module _ (current : ℕ) (place : Place) (s : Statement) (at_hand : slice_get statements place.at ≡ Some s) where
    plan_alone : (found : Option Answer) → plan_answer table sources s files current ≡ Ok found → GoesAlone (plan_turn current place found)
    plan_alone None is =
        ((refl, λ other also. let same : s ≡ other = cc in subst (λ (x : Statement). plan_answer table sources x files current ≡ Ok None) same is), refl)
    plan_alone (Some found) is = (tt, plan_is_own table sources s files current (Some found) is)

    good_goes : (unchanged : Bool) → GoesAlone (good_turn current place unchanged)
    good_goes true = (tt, refl)
    good_goes false = (refl, refl)

    validate_alone : (unchanged : Bool) (found : Said) → found ≡ said.Good → GoesAlone (validate_turn current place unchanged found)
    validate_alone unchanged found is = subst (λ (x : Said). GoesAlone (validate_turn current place unchanged x)) (sym is) (good_goes unchanged)

    swap_alone : (retries : ℕ) → place.seen ≡ current → GoesAlone (swap_turn current place retries)
    swap_alone retries same = by (place.seen == current) (rw same (same_number current)) where
      same_number : (n : ℕ) → (n == n) ≡ true
      same_number n = grind arith

      by : (b : Bool) → b ≡ true → GoesAlone (if b then won_turn current place else lost_turn current place retries)
      by true is = (tt, refl)
      by false is = absurd cc

    step_alone : is_creation s ≡ false → (p : Phase) → IsAlone current place p → (turned : Turned)
        → turn_of table sources files current place s p ≡ Ok turned → GoesAlone turned
    step_alone dml phase.Plan alone turned is =
        let found = two_steps (plan_answer table sources s files current) (λ answer. Ok (plan_turn current place answer)) turned is in
        unwrapped (plan_turn current place found.0) turned found.2 (plan_alone found.0 found.1)
    step_alone dml phase.Validate alone turned is =
        let found = two_steps (verdict_at table sources s files place.planned current)
        (λ verdict. keeps_at table sources s files place.planned >>= λ keeps. Ok (validate_turn current place keeps verdict)) turned is in
        let more = two_steps (keeps_at table sources s files place.planned) (λ keeps. Ok (validate_turn current place keeps found.0)) turned found.2 in
        let verdict_is : verdict_at table sources s files current current ≡ Ok found.0 = subst (λ (n : ℕ). verdict_at table sources s files n current ≡ Ok found.0) alone.0 found.1 in
        unwrapped (validate_turn current place more.0 found.0) turned more.2
        (validate_alone more.0 found.0 (good_alone table sources s files current found.0 dml (alone.1 s at_hand) verdict_is))
    step_alone dml phase.Swap alone turned is =
        let found = two_steps (version_at table place.planned files) (λ parts. Ok (swap_turn current place parts.properties.retries)) turned is in
        unwrapped (swap_turn current place found.0.properties.retries) turned found.2 (swap_alone found.0.properties.retries alone)

  -- each step of a session that is alone, of statements of which none makes a branch
  pub turn_alone : (current : ℕ) (place : Place) → list_all (λ s. not (is_creation s)) statements ≡ true
      → IsAlone current place place.phase → (turned : Turned) → turn table sources files current place statements ≡ Ok turned
      → GoesAlone turned
  unfolding turn
  turn_alone current place dml alone turned is = by (slice_get statements place.at) refl is where
    by : (found : Option Statement) → slice_get statements place.at ≡ found
        → by_option found (λ s. turn_of table sources files current place s place.phase) (Ok (rests current place)) ≡ Ok turned
        → GoesAlone turned
    by None none e = unwrapped (rests current place) turned e (alone, refl)
    by (Some s) at_hand e =
        step_alone current place s at_hand (not_true (is_creation s) (passes_at (λ x. not (is_creation x)) statements place.at s dml at_hand)) place.phase alone turned e
