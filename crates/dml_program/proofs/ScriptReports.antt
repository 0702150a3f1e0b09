-- What a run tells, and with which status.
use Rattle.std.proofs.Common.{◌≡◌, ◌≢◌, ◌⊎◌, ◌≤◌, ◌<◌, inl, inr, ℕ, List, [], ◌∷◌, ◌++◌, codes, length, take, zero, suc, Option, Some, None, Result, Ok, Err, IfErr, IfOk, refl, sym, ap, subst, ◌∙◌, arith}
use Rattle.std.specs.Option.{ForSome}
use Rattle.plain_types.specs.Causes.{Rose, RoseTwice}
use Rattle.plain_types.specs.Steps.{◌>>=◌, or_fault}
use Rattle.row_values.specs.declared.schema.TableSchema.{TableSchema}
use Rattle.store_core.specs.Files.{Files}
use Rattle.store_core.specs.Written.{appended}
use Rattle.session_machine.specs.declared.event.Stepped.{Stepped}
use Rattle.command_line.specs.Words.{Wanted, rows, create, run}
use Rattle.table_state.specs.declared.load_fault.LoadFault.{LoadFault}
use Rattle.table_state.specs.declared.load_fault.LoadFault.TheVariants as load
use Rattle.table_state.specs.Live.{rows_of_branch}
use Rattle.schedule_runner.specs.Rows.{current_rows}
use Rattle.session_steps.specs.Open.{IsOpen}
use Rattle.session_steps.specs.declared.fault.RunFault.{RunFault}
use Rattle.session_steps.specs.declared.fault.RunFault.TheVariants as fault
use Rattle.schedule_runner.specs.Outcome.{IsOutcome, first_place}
use Rattle.schedule_runner.proofs.CallerLemmas.{outcome_wider, unbegun}
use Rattle.schedule_runner.specs.Adding.{AddsAtMost}
use Rattle.schedule_runner.specs.Scripts.{name_in, statements_in}
use Rattle.dml_program.specs.declared.begin.Begun.{Begun}
use Rattle.dml_program.specs.declared.status.Status.{Status}
use Rattle.dml_program.specs.declared.status.Status.TheVariants as status
use Rattle.dml_program.specs.Answers.{ProgramAnswer, Carries, IsFault, LeavesAnswered, RunsNothing, Writes, refused, report_lines}
use Rattle.dml_program.specs.Beginning.{begun_of}
use Rattle.dml_program.specs.Causes.{HasInputCause, HasStoreCause, IsSettled, IsSettledBy, IsUnbegun}
use Rattle.dml_program.specs.Creating.{StopsAt}
use Rattle.dml_program.specs.Opening.{load_status}
use Rattle.dml_program.specs.ScriptRuns.{HasEnded, IsBroken, IsRan, IsRunEnd, IsTold, IsUnread, IsWhole, OfRun, names_in, status_of_fault, status_of_steps}
use Rattle.run_report.specs.Report.{lines_of_branch, lines_of_steps}
use Rattle.row_values.specs.declared.value.Value.{Value}
use Rattle.dml_program.specs.Statuses.{fault_lines}
use Rattle.dml_program.proofs.Beginnings.{begins_open}

-- ---- a run that began

-- an open table's rows are those of its current version
pub open_rows : (table : List ℕ) (schema : TableSchema) (files : Files) (current : ℕ) (is : IsOpen table schema files current)
    → current_rows table (codes "main") files ≡ Ok is.rows
open_rows table schema files current is = ap (λ (o : Option ℕ). or_fault (load.Missing table) o >>= λ version. rows_of_branch table version (codes "main") files) is.newest ∙ is.told

-- the causes of a run are those of its status
pub stop_cause : (table : List ℕ) (names : List (List ℕ)) (f : RunFault) (result : Status) (before now unsettled : ℕ)
    → (result ≡ status.Memory) ⊎ (result ≡ status_of_fault table names f)
    → (f ≡ fault.Store → Rose before now × (0 < unsettled)) → ((session statement : ℕ) → f ≡ fault.Unknown session statement → RoseTwice before now × (2 ≤ unsettled)) → HasStoreCause result before now unsettled
stop_cause table names f result before now unsettled (inl e) store unknown = subst (λ (s : Status). HasStoreCause s before now unsettled) (sym e) tt
stop_cause table names fault.Store result before now unsettled (inr e) store unknown = subst (λ (s : Status). HasStoreCause s before now unsettled) (sym e) (store refl)
stop_cause table names (fault.Unknown session statement) result before now unsettled (inr e) store unknown = subst (λ (s : Status). HasStoreCause s before now unsettled) (sym e) (unknown session statement refl)
stop_cause table names (fault.Table why) result before now unsettled (inr e) store unknown = subst (λ (s : Status). HasStoreCause s before now unsettled) (sym e) tt
stop_cause table names (fault.Schema name) result before now unsettled (inr e) store unknown = subst (λ (s : Status). HasStoreCause s before now unsettled) (sym e) tt
stop_cause table names (fault.Limit name) result before now unsettled (inr e) store unknown = subst (λ (s : Status). HasStoreCause s before now unsettled) (sym e) tt
stop_cause table names fault.Memory result before now unsettled (inr e) store unknown = subst (λ (s : Status). HasStoreCause s before now unsettled) (sym e) tt

-- and hold since it began
pub later_cause : (result : Status) (before middle now unsettled : ℕ)
    → ((session : List ℕ) (number : ℕ) → result ≡ status.StateUnknown session number → ⊥) → before ≤ middle
    → HasStoreCause result middle now unsettled → HasStoreCause result before now unsettled
later_cause status.StoreFailed before middle now unsettled known later cause = ((let rose = cause.0 in omega arith), cause.1)
later_cause (status.StateUnknown session number) before middle now unsettled known later cause = absurd (known session number refl)
later_cause status.Done before middle now unsettled known later cause = tt
later_cause status.Refused before middle now unsettled known later cause = tt
later_cause status.Usage before middle now unsettled known later cause = tt
later_cause (status.ScriptBad line sort) before middle now unsettled known later cause = tt
later_cause (status.TableBad kind path) before middle now unsettled known later cause = tt
later_cause (status.InputFailed name) before middle now unsettled known later cause = tt
later_cause status.OutputFailed before middle now unsettled known later cause = tt
later_cause status.Memory before middle now unsettled known later cause = tt

-- what is told of the files that are left, under another name of them
pub adds_told : (table session : List ℕ) (new : Option Files) (start files other : Files) → new ≡ Some files → new ≡ Some other
    → AddsAtMost table session start other → AddsAtMost table session start files
adds_told table session new start files other is made adds = let same : other ≡ files = cc in subst (AddsAtMost table session start) same adds

-- a run that began, by what was made of it and what was told
pub ran : (table : List ℕ) (begun : Begun) (start files : Files) (was : IsOpen table begun.schema start begun.version)
    (steps told_steps : List Stepped) (ended told_ended : Option RunFault) (failed fails later : ℕ) (result : Status)
    (old new : Option (List ℕ)) (before now : ℕ)
    → fails ≤ later → ended ≡ told_ended → told_steps ≡ steps
    → IsOutcome table begun.schema [] (statements_in begun.script) start begun.version (first_place 0) was files steps failed fails ended
    → IsTold table (names_in begun.script) files told_steps told_ended result old new before now
    → AddsAtMost table (name_in begun.script) start files → IsRan table begun start files failed later result old new before now
ran table begun start files was steps told_steps ended told_ended failed fails later result old new before now above is told outcome report adds = record {
  was = was;
  steps = steps;
  ended = told_ended;
  outcome =
      outcome_wider table begun.schema [] (statements_in begun.script) start begun.version (first_place 0) was files steps failed failed fails later told_ended (omega arith) above
      (subst (IsOutcome table begun.schema [] (statements_in begun.script) start begun.version (first_place 0) was files steps failed fails) is outcome);
  report = subst (λ (xs : List Stepped). IsTold table (names_in begun.script) files xs told_ended result old new before now) told report;
  adds = adds;
}

-- ---- a run that could not begin

-- a status of what is wrong, or of what failed, where this is wanted
pub stops_carry : {A : Type 0} (failed : Type 0) (wanted : Result A Status) (s result : Status) → StopsAt failed wanted s
    → (result ≡ s) ⊎ (result ≡ status.Memory) → IfErr wanted (λ reason. Carries failed (refused reason) result)
stops_carry failed (Ok a) s result stops is = tt
stops_carry failed (Err reason) s result stops (inr e) = subst (Carries failed (refused reason)) (sym e) tt
stops_carry failed (Err reason) s result stops (inl e) = subst (Carries failed (refused reason)) (sym e) (carried _ failed reason s stops)
  where
    carried : (A : Type 0) (failed : Type 0) (reason s : Status) → StopsAt {A = A} failed (Err reason) s → Carries failed (refused reason) s
    carried A failed reason (status.ScriptBad line sort) stops = cc
    carried A failed reason (status.TableBad kind path) stops = cc
    carried A failed reason status.StoreFailed stops = tt
    carried A failed reason (status.InputFailed name) (inl f) = inl f
    carried A failed reason (status.InputFailed name) (inr e) = inr cc
    carried A failed reason (status.StateUnknown session number) stops = tt
    carried A failed reason status.Memory stops = tt
    carried A failed reason status.Done stops = absurd stops
    carried A failed reason status.Refused stops = absurd stops
    carried A failed reason status.Usage stops = absurd stops
    carried A failed reason status.OutputFailed stops = absurd stops

-- where nothing failed it is what is wrong, or want of memory
pub stops_complete : {A : Type 0} (failed : Type 0) (wanted : Result A Status) (s result : Status) (before now unsettled : ℕ)
    → StopsAt failed wanted s → HasStoreCause s before now unsettled → IsUnbegun s → ¬ failed → ¬ (Rose before now)
    → (result ≡ s) ⊎ (result ≡ status.Memory) → IfErr wanted (λ reason. (result ≡ status.Memory) ⊎ (result ≡ reason))
stops_complete failed (Ok a) s result before now unsettled stops cause kind none quiet is = tt
stops_complete failed (Err reason) s result before now unsettled stops cause kind none quiet (inr e) = inl e
stops_complete failed (Err reason) s result before now unsettled stops cause kind none quiet (inl e) = completed _ failed reason s result before now unsettled stops cause kind none quiet e
  where
    completed : (A : Type 0) (failed : Type 0) (reason s result : Status) (before now unsettled : ℕ)
        → StopsAt {A = A} failed (Err reason) s → HasStoreCause s before now unsettled → IsUnbegun s → ¬ failed
        → ¬ (Rose before now) → result ≡ s → (result ≡ status.Memory) ⊎ (result ≡ reason)
    completed A failed reason (status.ScriptBad line sort) result before now unsettled stops cause k none quiet e = inr cc
    completed A failed reason (status.TableBad kind path) result before now unsettled stops cause k none quiet e = inr cc
    completed A failed reason status.StoreFailed result before now unsettled stops cause k none quiet e = absurd (quiet cause.0)
    completed A failed reason (status.InputFailed name) result before now unsettled (inl f) cause k none quiet e = absurd (none f)
    completed A failed reason (status.InputFailed name) result before now unsettled (inr is) cause k none quiet e = inr cc
    completed A failed reason status.Memory result before now unsettled stops cause k none quiet e = inl e
    completed A failed reason (status.StateUnknown session number) result before now unsettled stops cause k none quiet e = absurd k
    completed A failed reason status.Done result before now unsettled stops cause k none quiet e = absurd k
    completed A failed reason status.Refused result before now unsettled stops cause k none quiet e = absurd k
    completed A failed reason status.Usage result before now unsettled stops cause k none quiet e = absurd k
    completed A failed reason status.OutputFailed result before now unsettled stops cause k none quiet e = absurd k

-- what holds of every reason
pub each_refusal : {A : Type 0} (wanted : Result A Status) (P : Status → Type 0) → ((reason : Status) → P reason) → IfErr wanted P
each_refusal (Ok a) P each = tt
each_refusal (Err reason) P each = each reason

-- what holds of what it began with
pub began : {A : Type 0} (wanted : Result A Status) (a : A) (P : A → Type 0) → wanted ≡ Ok a → P a → IfOk wanted P
began (Ok b) a P is held = let same : a ≡ b = cc in subst P same held
began (Err reason) a P is held = absurd cc

-- and of no reason
pub none_refused : {A : Type 0} (wanted : Result A Status) (a : A) (P : Status → Type 0) → wanted ≡ Ok a → IfErr wanted P
none_refused (Ok b) a P is = tt
none_refused (Err reason) a P is = absurd cc

-- the files stay as they were
pub stops_leave : (reason s : Status) (files : Files) (new : Option Files) → new ≡ Some files → LeavesAnswered (refused reason) s files new
stops_leave reason status.Done files new same = same
stops_leave reason status.Refused files new same = same
stops_leave reason status.Usage files new same = same
stops_leave reason (status.ScriptBad line sort) files new same = same
stops_leave reason (status.TableBad kind path) files new same = same
stops_leave reason status.StoreFailed files new same = same
stops_leave reason (status.InputFailed name) files new same = same
stops_leave reason status.OutputFailed files new same = same
stops_leave reason (status.StateUnknown session number) files new same = inl same
stops_leave reason status.Memory files new same = inl same

pub unbegun_is_fault : (s : Status) → IsUnbegun s → IsFault s
unbegun_is_fault (status.ScriptBad line sort) u = tt
unbegun_is_fault (status.TableBad kind path) u = tt
unbegun_is_fault status.StoreFailed u = tt
unbegun_is_fault (status.InputFailed name) u = tt
unbegun_is_fault status.Memory u = tt
unbegun_is_fault status.Done u = absurd u
unbegun_is_fault status.Refused u = absurd u
unbegun_is_fault status.Usage u = absurd u
unbegun_is_fault status.OutputFailed u = absurd u
unbegun_is_fault (status.StateUnknown session number) u = absurd u

-- a run that would have begun, but for the store, the input or memory
module _ (table name : List ℕ) (files inputs : Files) (begun : Begun) (is : begun_of table name files inputs ≡ Ok begun) (failed fails : ℕ) (old new : Option (List ℕ)) (before now : ℕ) where
  opened : IsOpen table begun.schema files begun.version
  opened = begins_open table files name inputs begun is

  pub store_failed : Writes (fault_lines status.StoreFailed) old new before now → IsRan table begun files files failed fails status.StoreFailed old new before now
  store_failed writes = record {
    was = opened;
    steps = [];
    ended = Some fault.Store;
    outcome = unbegun table begun.schema [] (statements_in begun.script) files begun.version (first_place 0) opened failed fails fault.Store tt tt;
    report = inr (status.StoreFailed, fault_lines status.StoreFailed, (refl, refl), writes, (λ ended. absurd ended), inl refl);
    adds = inl refl;
  }

  pub memory_out : new ≡ old → IsRan table begun files files failed fails status.Memory old new before now
  memory_out same = record {
    was = opened;
    steps = [];
    ended = Some fault.Memory;
    outcome = unbegun table begun.schema [] (statements_in begun.script) files begun.version (first_place 0) opened failed fails fault.Memory tt tt;
    report = inl (refl, same);
    adds = inl refl;
  }

-- no byte was written
nothing_more : (old : Option (List ℕ)) → appended [] old ≡ old
nothing_more None = refl
nothing_more (Some bytes) = ap Some (all_of bytes)
  where
    all_of : (xs : List ℕ) → xs ++ [] ≡ xs
    all_of [] = refl
    all_of (x ∷ xs) = ap (λ (ys : List ℕ). x ∷ ys) (all_of xs)

none_taken : (count : ℕ) → ◌≡◌ {A = List ℕ} (take count []) []
none_taken zero = refl
none_taken (suc count) = refl

pub nothing_written : (old new : Option (List ℕ)) (before now : ℕ) → Writes [] old new before now → new ≡ old
nothing_written old new before now (inl whole) = whole ∙ nothing_more old
nothing_written old new before now (inr front) = front.0.2 ∙ ap (λ (bytes : List ℕ). appended bytes old) (none_taken front.0.0) ∙ nothing_more old

-- what a run leaves that could not begin
module _ (files : Files) (failed fails : ℕ) (old new : Option (List ℕ)) (before now : ℕ) (left : Option Files) (failed_before failed_now : ℕ) where
  abbrev Held : List ℕ → Begun → Status → Type 0
  Held table begun t = IsUnread t failed_before failed_now files left ⊎ ((n : Files) × (left ≡ Some n) × IsRan table begun files n failed fails t old new before now)

  module _ (table name : List ℕ) (inputs : Files) (same : left ≡ Some files) where
    out_of_memory : (begun : Begun) → begun_of table name files inputs ≡ Ok begun → (t : Status) → t ≡ status.Memory
        → Writes (fault_lines t) old new before now → Held table begun t
    out_of_memory begun e t m w =
        subst (Held table begun) (sym m) (inr (files, same, memory_out table name files inputs begun e failed fails old new before now (nothing_written old new before now (subst (λ (u : Status). Writes (fault_lines u) old new before now) m w))))

    by_status : (begun : Begun) → begun_of table name files inputs ≡ Ok begun → (t : Status)
        → StopsAt {A = Begun} (Rose failed_before failed_now) (Ok begun) t → IsUnbegun t → Writes (fault_lines t) old new before now
        → Held table begun t
    by_status begun e (status.ScriptBad line k) stopped u w = absurd cc
    by_status begun e (status.TableBad k path) stopped u w = absurd cc
    by_status begun e status.StoreFailed stopped u w = inr (files, same, store_failed table name files inputs begun e failed fails old new before now w)
    by_status begun e (status.InputFailed input) (inl f) u w = inl (f, same)
    by_status begun e (status.InputFailed input) (inr wrong) u w = absurd cc
    by_status begun e status.Memory stopped u w = out_of_memory begun e status.Memory refl w
    by_status begun e (status.StateUnknown session number) stopped u w = absurd u
    by_status begun e status.Done stopped u w = absurd u
    by_status begun e status.Refused stopped u w = absurd u
    by_status begun e status.Usage stopped u w = absurd u
    by_status begun e status.OutputFailed stopped u w = absurd u

    by_end : (begun : Begun) → begun_of table name files inputs ≡ Ok begun → (s result : Status)
        → StopsAt {A = Begun} (Rose failed_before failed_now) (Ok begun) s → IsUnbegun s → (result ≡ s) ⊎ (result ≡ status.Memory)
        → Writes (fault_lines result) old new before now → Held table begun result
    by_end begun e s result stopped kind (inl t) writes = subst (Held table begun) (sym t) (by_status begun e s stopped kind (subst (λ (u : Status). Writes (fault_lines u) old new before now) t writes))
    by_end begun e s result stopped kind (inr m) writes = out_of_memory begun e result m writes

    by_result : (r : Result Begun Status) → begun_of table name files inputs ≡ r → (s result : Status)
        → StopsAt (Rose failed_before failed_now) r s → IsUnbegun s → (result ≡ s) ⊎ (result ≡ status.Memory)
        → Writes (fault_lines result) old new before now → IfOk r (λ begun. Held table begun result)
    by_result (Ok begun) e s result stopped kind is writes = by_end begun e s result stopped kind is writes
    by_result (Err reason) e s result stopped kind is writes = tt

    pub unbegun_runs : (s result : Status) → StopsAt (Rose failed_before failed_now) (begun_of table name files inputs) s
        → IsUnbegun s → (result ≡ s) ⊎ (result ≡ status.Memory) → Writes (fault_lines result) old new before now
        → IfOk (begun_of table name files inputs) (λ begun. Held table begun result)
    unbegun_runs s result stops kind is writes = by_result (begun_of table name files inputs) refl s result stops kind is writes

    memory_by : (r : Result Begun Status) → begun_of table name files inputs ≡ r → new ≡ old → IfOk r (λ begun. Held table begun status.Memory)
    memory_by (Ok begun) e nothing = inr (files, same, memory_out table name files inputs begun e failed fails old new before now nothing)
    memory_by (Err reason) e nothing = tt

    -- where memory ran out
    pub memory_runs : new ≡ old → IfOk (begun_of table name files inputs) (λ begun. Held table begun status.Memory)
    memory_runs nothing = memory_by (begun_of table name files inputs) refl nothing

-- ---- statuses

-- a run that began has read its script
pub run_input : (result : Status) (contents : Option Files) (before now : ℕ) → IsRunEnd result → HasInputCause result contents before now
run_input (status.InputFailed name) contents before now end = absurd end
run_input status.Done contents before now end = tt
run_input status.Refused contents before now end = tt
run_input status.Usage contents before now end = tt
run_input (status.ScriptBad line sort) contents before now end = tt
run_input (status.TableBad kind path) contents before now end = tt
run_input status.StoreFailed contents before now end = tt
run_input status.OutputFailed contents before now end = tt
run_input (status.StateUnknown session number) contents before now end = tt
run_input status.Memory contents before now end = tt

-- ---- other commands

pub written_is_no_fault : (s : Status) → (s ≡ status.Done) ⊎ (s ≡ status.OutputFailed) → IsFault s → ⊥
written_is_no_fault s (inl e) fault = subst IsFault e fault
written_is_no_fault s (inr e) fault = subst IsFault e fault

pub ended_is_done : (s : Status) → (s ≡ status.Done) ⊎ (s ≡ status.OutputFailed) → HasEnded s → s ≡ status.Done
ended_is_done s (inl e) ended = e
ended_is_done s (inr e) ended = absurd (subst HasEnded e ended)

fault_goes_on : (s : Status) → IsFault s → HasEnded s → ⊥
fault_goes_on status.Done fault ended = fault
fault_goes_on status.Refused fault ended = fault
fault_goes_on status.Usage fault ended = ended
fault_goes_on (status.ScriptBad line sort) fault ended = ended
fault_goes_on (status.TableBad kind path) fault ended = ended
fault_goes_on status.StoreFailed fault ended = ended
fault_goes_on (status.InputFailed name) fault ended = ended
fault_goes_on status.OutputFailed fault ended = ended
fault_goes_on (status.StateUnknown session number) fault ended = ended
fault_goes_on status.Memory fault ended = ended

-- a call whose fault was written has not ended
pub told_is_no_end : (s result : Status) → IsFault s → (result ≡ s) ⊎ (result ≡ status.Memory) → HasEnded result → ⊥
told_is_no_end s result fault (inl e) ended = fault_goes_on s fault (subst HasEnded e ended)
told_is_no_end s result fault (inr e) ended = subst HasEnded e ended

pub settled_by : (d : Option Wanted) (before now unsettled : ℕ) → IsSettled before now unsettled → IsSettledBy d before now unsettled
settled_by None before now unsettled settled = settled
settled_by (Some (rows table)) before now unsettled settled = settled
settled_by (Some (create table schema)) before now unsettled settled = settled
settled_by (Some (run table script)) before now unsettled settled = tt

pub none_run : (d : Option Wanted) (files given : Option Files) (holds : List ℕ → Begun → Files → Type 0) → RunsNothing d → OfRun d files given holds
none_run None files given holds nothing = tt
none_run (Some (rows table)) files given holds nothing = tt
none_run (Some (create table schema)) files given holds nothing = tt
none_run (Some (run table script)) files given holds nothing = absurd nothing

pub no_run : (d : Option Wanted) → d ≡ None → (files given : Option Files) (holds : List ℕ → Begun → Files → Type 0) → OfRun d files given holds
no_run d none files given holds = subst (λ (e : Option Wanted). OfRun e files given holds) (sym none) tt

pub memory_of_run : (d : Option Wanted) (files given : Option Files) (failed fails failed_before failed_now : ℕ)
    (old : Option (List ℕ)) (before now : ℕ)
    → OfRun d files given (λ table begun f. IsUnread status.Memory failed_before failed_now f files ⊎ ((n : Files) × (files ≡ Some n) × IsRan table begun f n failed fails status.Memory old old before now))
memory_of_run None files given failed fails failed_before failed_now old before now = tt
memory_of_run (Some (rows table)) files given failed fails failed_before failed_now old before now = tt
memory_of_run (Some (create table schema)) files given failed fails failed_before failed_now old before now = tt
memory_of_run (Some (run table script)) files given failed fails failed_before failed_now old before now = λ f told g inputs. memory_runs f failed fails old old before now files failed_before failed_now table script g told refl

-- ---- no command

pub usage_carried : (s : Status) (failed : Type 0) → (s ≡ status.Usage) ⊎ (s ≡ status.Memory) → Carries failed (refused status.Usage) s
usage_carried s failed (inl e) = subst (Carries failed (refused status.Usage)) (sym e) refl
usage_carried s failed (inr e) = subst (Carries failed (refused status.Usage)) (sym e) tt

pub swap_either : {P Q : Type 0} → P ⊎ Q → Q ⊎ P
swap_either (inl p) = inr p
swap_either (inr q) = inl q

pub memory_report : (a : ProgramAnswer) → report_lines a status.Memory ≡ []
memory_report a = refl

pub nothing_writes : (old : Option (List ℕ)) (before now : ℕ) {lines : List ℕ} → lines ≡ [] → Writes lines old old before now
nothing_writes old before now {lines = lines} none = inl (sym (nothing_more old) ∙ ap (λ (xs : List ℕ). appended xs old) (sym none))

-- ---- a run that went to its end

module _ {R : Type 0} (status_in : R → Status) (lines_in : R → List ℕ) (table : List ℕ) (own names : List (List ℕ)) (are : own ≡ names) (steps : List Stepped) (told : Option Files) where
  -- what a report says, where the branch can be read
  abbrev Says : R → Type 0
  Says report = ForSome told (λ files. (rows : List (List Value)) → current_rows table (codes "main") files ≡ Ok rows
      → IsWhole table names files steps (status_in report) (lines_in report)
      ⊎ ((status_in report ≡ status.StoreFailed) × IsBroken names steps (status_in report) (lines_in report)))

  -- with the rows that are counted
  pub wholly : (count : ℕ) (r : Result R Status) → IfOk r (λ report. status_in report ≡ status_of_steps steps)
      → IfOk r (λ report. lines_in report ≡ lines_of_steps own steps ++ lines_of_branch (codes "main") count)
      → ForSome told (λ files. (rows : List (List Value)) → current_rows table (codes "main") files ≡ Ok rows → count ≡ length rows) → IfOk r Says
  wholly count (Ok report) by_steps lines counted = λ files is rows read. inl (record {
    rows = rows;
    told = read;
    by_steps = by_steps;
    whole = lines ∙ ap (λ (t : List (List ℕ)). lines_of_steps t steps ++ lines_of_branch (codes "main") count) are ∙ ap (λ (n : ℕ). lines_of_steps names steps ++ lines_of_branch (codes "main") n) (counted files is rows read);
  })
  wholly count (Err s) by_steps lines counted = tt

  abbrev Unread : Type 0
  Unread = ForSome told (λ files. (rows : List (List Value)) → current_rows table (codes "main") files ≡ Ok rows → ⊥)

  none_said : (report : R) → Unread → Says report
  none_said report unread = λ files is rows read. absurd (unread files is rows read)

  -- without them
  pub partly : (path : List ℕ) (f : LoadFault) (r : Result R Status) (wanted : Status) → wanted ≡ load_status path f
      → IfOk r (λ report. status_in report ≡ wanted) → IfOk r (λ report. IsBroken own steps wanted (lines_in report))
      → f ≢ load.Memory → (f ≢ load.Store → f ≢ load.Memory → Unread) → IfOk r Says
  partly path load.Store (Ok report) wanted is same lines some unread = λ files at rows read.
      inr (same ∙ is, subst (λ (s : Status). IsBroken names steps s (lines_in report)) (sym same) (subst (λ (t : List (List ℕ)). IsBroken t steps wanted (lines_in report)) are lines))
  partly path load.Memory (Ok report) wanted is same lines some unread = absurd (some refl)
  partly path (load.Missing name) (Ok report) wanted is same lines some unread = none_said report (unread (λ e. cc) some)
  partly path (load.Outside name) (Ok report) wanted is same lines some unread = none_said report (unread (λ e. cc) some)
  partly path (load.Metadata why) (Ok report) wanted is same lines some unread = none_said report (unread (λ e. cc) some)
  partly path (load.Manifest name why) (Ok report) wanted is same lines some unread = none_said report (unread (λ e. cc) some)
  partly path (load.Container name why) (Ok report) wanted is same lines some unread = none_said report (unread (λ e. cc) some)
  partly path (load.Rows name why) (Ok report) wanted is same lines some unread = none_said report (unread (λ e. cc) some)
  partly path f (Err s) wanted is same lines some unread = tt
