-- How a step ends, by the statement at hand.
use Rattle.std.proofs.Common.{◌≡◌, ℕ, zero, suc, List, [], ◌∷◌, Option, Some, None, codes, refl, sym, ap, subst, ◌∙◌, ◌⊎◌, inl, inr, option_map, IsSome, slice_get, Result, Ok, Err, IfOk, IfErr}
use Rattle.std.specs.FinMap as map
use Rattle.std.specs.List.{AllByRecursion}
use Rattle.std.specs.Option.{ForSome}
use Rattle.plain_types.specs.Causes.{Rose, RoseTwice}
use Rattle.row_values.specs.declared.schema.TableSchema.{TableSchema}
use Rattle.sql_statements.specs.declared.statement.Source.{Source}
use Rattle.sql_statements.specs.declared.statement.Statement.{Statement}
use Rattle.sql_statements.specs.Tables.{branch_of}
use Rattle.store_core.specs.Files.{Files, bytes_of, swapped}
use Rattle.table_names.specs.declared.names.Names.{Names}
use Rattle.table_names.specs.FileNames.{NoneFrom}
use Rattle.session_machine.specs.declared.event.Stepped.{Stepped}
use Rattle.commit_builder.specs.declared.commit.Prepared.{Prepared}
use Rattle.table_names.specs.Versions.{version_of_name, version_prefix}
use Rattle.session_machine.specs.declared.place.Phase.{Phase}
use Rattle.session_machine.specs.declared.place.Phase.TheVariants as phase
use Rattle.session_machine.specs.declared.place.Place.{Place}
use Rattle.branch_commit.specs.Settled.{Leaves}
use Rattle.branch_commit.specs.declared.swapping.SwapFault.{SwapFault}
use Rattle.branch_commit.specs.declared.swapping.SwapFault.TheVariants as swap
use Rattle.session_steps.specs.Faults.{swap_fault}
use Rattle.session_steps.specs.Open.{IsOpen}
use Rattle.session_steps.proofs.Swaps.{committed, is_missing, same_beside, still_free}
use Rattle.session_steps.specs.declared.fault.RunFault.{RunFault}
use Rattle.session_steps.specs.declared.fault.RunFault.TheVariants as run
use Rattle.session_steps.specs.declared.session.Session.{Session}
use Rattle.session_steps.specs.Steps.{EndsOf, HasPrepared, HasShape, InPhase, IsHeldOf, IsStep, IsStepOf, InShape, LeavesOthers, LeftBy, MayCommit}

-- ---- what is said of answers and faults

pub if_ok : {X Y : Type 0} {P Q : X → Type 0} (r : Result X Y) → IfOk r P → ((x : X) → P x → Q x) → IfOk r Q
if_ok (Ok x) h more = more x h
if_ok (Err y) h more = tt

pub if_err : {X Y : Type 0} {P Q : Y → Type 0} (r : Result X Y) → IfErr r P → ((y : Y) → P y → Q y) → IfErr r Q
if_err (Ok x) h more = tt
if_err (Err y) h more = more y h

pub each_err : {X Y : Type 0} {Q : Y → Type 0} (r : Result X Y) → ((y : Y) → Q y) → IfErr r Q
each_err (Ok x) all = tt
each_err (Err y) all = all y

-- ---- the statement at hand

pub all_at : {X : Type 0} (P : X → Type 0) (xs : List X) (n : ℕ) (x : X) → AllByRecursion P xs → slice_get xs n ≡ Some x → P x
all_at P [] n x all is = absurd cc
all_at P (y ∷ ys) zero x all is = let same : y ≡ x = cc in subst P same all.0
all_at P (y ∷ ys) (suc n) x all is = all_at P ys n x all.1 is

module _ (table : List ℕ) (schema : TableSchema) (sources : List Source) (old new : Files) (current : ℕ) (place : Place) (session : Session) (stepped : Stepped) (found : Option Statement) where
  pub by_statement : (s : Statement) → found ≡ Some s → IsStep table schema sources s old new current place session stepped
      → IsStepOf table schema sources found old new current place session stepped
  by_statement s is h = subst (λ (o : Option Statement). IsStepOf table schema sources o old new current place session stepped) (sym is) h

pub nothing : (table : List ℕ) (schema : TableSchema) (sources : List Source) (old : Files) (current : ℕ) (session : Session)
    (found : Option Statement) → found ≡ None
    → IsStepOf table schema sources found old old current session.place session (record { event = None; answer = None })
nothing table schema sources old current session found is = subst (λ (o : Option Statement). IsStepOf table schema sources o old old current session.place session (record { event = None; answer = None })) (sym is) (refl, refl, refl)

pub held_in : (table : List ℕ) (schema : TableSchema) (sources : List Source) (files : Files) (session : Session)
    (found : Option Statement) (s : Statement) (p : Phase) → found ≡ Some s → session.place.phase ≡ p
    → IsHeldOf table schema sources files session found → InPhase table schema sources s files session p
held_in table schema sources files session found s p is at h =
    subst (λ (q : Phase). InPhase table schema sources s files session q) at (subst (λ (o : Option Statement). IsHeldOf table schema sources files session o) is h)

pub has_version : (session : Session) → session.place.phase ≡ phase.Swap → HasShape session → IsSome session.prepared
has_version session is shape = (subst (λ (p : Phase). InShape session p) is shape).1

-- ---- a swap

some_of : {X : Type 0} (o : Option X) → IsSome o → (x : X) × (o ≡ Some x)
some_of (Some x) h = (x, refl)
some_of None h = absurd cc

same_version : (first second : Prepared) (o : Option Prepared) → o ≡ Some first → o ≡ Some second → first ≡ second
same_version first second o h k = cc

pub version_missing : (table : List ℕ) (schema : TableSchema) (sources : List Source) (s : Statement) (files : Files)
    (current : ℕ) (session : Session) → IsOpen table schema files current → HasPrepared table schema sources s files session
    → (prepared : Prepared) → session.prepared ≡ Some prepared → map.get files prepared.name ≡ None
version_missing table schema sources s files current session was has prepared made =
    subst (λ (p : Prepared). map.get files p.name ≡ None) (same_version has.prepared prepared session.prepared has.made made) (is_missing table schema sources s files current session was has)

module _ (table : List ℕ) (schema : TableSchema) (sources : List Source) (s : Statement) (files : Files) (current : ℕ) (session : Session)
    (was : IsOpen table schema files current) (has : HasPrepared table schema sources s files session) (main : branch_of s ≡ codes "main")
    (old new : Option Files) (told : old ≡ Some files) (before after : ℕ) (swaps : session.place.phase ≡ phase.Swap) where
  abbrev later : Files
  later = swapped has.prepared.name has.prepared.bytes files

  abbrev Ended : RunFault → Type 0
  Ended f = (now : Files) × (new ≡ Some now) × EndsOf table schema sources (Some s) files now current session.place before after f

  same_ends : (f : RunFault) → new ≡ old → Ended f
  same_ends f same = (files, same ∙ told, inl (record { was = was; below = λ name is_version most. refl; still = was; rows = refl }))

  told_after : new ≡ option_map (swapped has.prepared.name has.prepared.bytes) old → new ≡ Some later
  told_after e = e ∙ ap (option_map (swapped has.prepared.name has.prepared.bytes)) told

  in_flight : (f : RunFault) → new ≡ option_map (swapped has.prepared.name has.prepared.bytes) old → MayCommit phase.Swap f before after → Ended f
  in_flight f e may = (
    later,
    told_after e,
    inr (subst (λ (p : Phase). MayCommit p f before after) (sym swaps) may, committed table schema sources s files current session was has main),
  )

  swap_ends : (f : RunFault) → LeftBy has.prepared.name has.prepared.bytes old new before after f → Ended f
  swap_ends run.Store left = same_ends run.Store left
  swap_ends (run.Unknown session_number number) (inl same) = same_ends (run.Unknown session_number number) same
  swap_ends (run.Unknown session_number number) (inr e) = in_flight (run.Unknown session_number number) e.0 e.1
  swap_ends run.Memory (inl same) = same_ends run.Memory same
  swap_ends run.Memory (inr e) = in_flight run.Memory e.0 e.1
  swap_ends (run.Table f) left = absurd left
  swap_ends (run.Schema q) left = absurd left
  swap_ends (run.Limit q) left = absurd left

  pub swap_ends_of : (found : Option Statement) → found ≡ Some s → (f : RunFault)
      → LeftBy has.prepared.name has.prepared.bytes old new before after f → (now : Files) × (new ≡ Some now)
      × EndsOf table schema sources found files now current session.place before after f
  swap_ends_of found is f left = subst (λ (o : Option Statement). (now : Files) × (new ≡ Some now) × EndsOf table schema sources o files now current session.place before after f) (sym is) (swap_ends f left)

-- ---- a swap that failed

failed_then : {Same Swapped Count : Type 0} → Same ⊎ Swapped → Same ⊎ Count → Same ⊎ (Swapped × Count)
failed_then (inl same) either = inl same
failed_then (inr swapped) (inl same) = inl same
failed_then (inr swapped) (inr count) = inr (swapped, count)

pub left_by : (place : Place) (name bytes : List ℕ) (old new : Option Files) (before now : ℕ) (f : SwapFault)
    → Leaves name bytes old new (Err f) → (f ≡ swap.Unknown → RoseTwice before now) → (f ≡ swap.Memory → (new ≡ old) ⊎ Rose before now)
    → LeftBy name bytes old new before now (swap_fault place f)
left_by place name bytes old new before now swap.Store left unknown memory = left
left_by place name bytes old new before now swap.Unknown left unknown memory = failed_then left (inr (unknown refl))
left_by place name bytes old new before now swap.Memory left unknown memory = failed_then left (memory refl)

-- ---- the files after a swap

abbrev Swaps : Session → Option Files → Option Files → Type 0
Swaps session old new = (prepared : Prepared) → session.prepared ≡ Some prepared → (new ≡ old) ⊎ (new ≡ option_map (swapped prepared.name prepared.bytes) old)

none_stays : (prepared : Prepared) (new : Option Files) → (new ≡ None) ⊎ (new ≡ option_map (swapped prepared.name prepared.bytes) None) → new ≡ None
none_stays prepared new (inl same) = same
none_stays prepared new (inr same) = same

abbrev IsAtHand : List ℕ → TableSchema → List Source → Statement → Session → Files → Type 0
IsAtHand table schema sources s session files = (current : ℕ) × IsOpen table schema files current × HasPrepared table schema sources s files session

pub at_hand : (table : List ℕ) (schema : TableSchema) (sources : List Source) (statements : List Statement) (session : Session)
    (s : Statement) (old : Option Files) → slice_get statements session.place.at ≡ Some s → session.place.phase ≡ phase.Swap
    → ForSome old (λ files. (current : ℕ) × IsOpen table schema files current) → ForSome old (λ files. IsHeldOf table schema sources files session (slice_get statements session.place.at)) → ForSome old (IsAtHand table schema sources s session)
at_hand table schema sources statements session s old is at opens held = λ files told.
    ((opens files told).0, (opens files told).1, held_in table schema sources files session (slice_get statements session.place.at) s phase.Swap is at (held files told))

module _ (table : List ℕ) (schema : TableSchema) (sources : List Source) (s : Statement) (session : Session) (some : IsSome session.prepared) where
  -- with the version, or as before
  abbrev later_of : (files : Files) → IsAtHand table schema sources s session files → Files
  later_of files h = swapped h.2.prepared.name h.2.prepared.bytes files

  free_by : (run from : ℕ) (text : List ℕ) (files : Files) (h : IsAtHand table schema sources s session files)
      (new : Option Files) → (new ≡ Some files) ⊎ (new ≡ Some (later_of files h)) → NoneFrom table run text from files
      → ForSome new (NoneFrom table run text from)
  free_by run from text files h new (inl same) free = λ now is. let e : files ≡ now = cc in subst (λ (f : Files). NoneFrom table run text from f) e free
  free_by run from text files h new (inr same) free = λ now is.
      let e : later_of files h ≡ now = cc in
      subst (λ (f : Files). NoneFrom table run text from f) e (still_free table schema sources s files h.0 session h.1 h.2 run text from free)

  pub free_after : (run from : ℕ) (text : List ℕ) (old new : Option Files) → Swaps session old new
      → ForSome old (IsAtHand table schema sources s session) → ForSome old (NoneFrom table run text from)
      → ForSome new (NoneFrom table run text from)
  free_after run from text None new swaps held free =
      let version = some_of session.prepared some in
      let none = none_stays version.0 new (swaps version.0 version.1) in
      λ now is. absurd cc
  free_after run from text (Some files) new swaps held free =
      let h = held files refl in
      free_by run from text files h new (swaps h.2.prepared h.2.made) (free files refl)

  others_by : (files : Files) (h : IsAtHand table schema sources s session files) (new : Option Files)
      → (new ≡ Some files) ⊎ (new ≡ Some (later_of files h)) → (q : List ℕ) → version_of_name (version_prefix table) q ≡ 0
      → bytes_of new q ≡ map.get files q
  others_by files h new (inl same) q none = ap (λ (o : Option Files). bytes_of o q) same
  others_by files h new (inr same) q none = ap (λ (o : Option Files). bytes_of o q) same ∙ same_beside table schema sources s files h.0 session h.1 h.2 q none

  pub others_after : (names : Names) (old new : Option Files) → Swaps session old new
      → ForSome old (IsAtHand table schema sources s session) → LeavesOthers table names old new
  others_after names None new swaps held q no_data no_metadata none =
      let version = some_of session.prepared some in
      ap (λ (o : Option Files). bytes_of o q) (none_stays version.0 new (swaps version.0 version.1))
  others_after names (Some files) new swaps held q no_data no_metadata none =
      let h = held files refl in
      others_by files h new (swaps h.2.prepared h.2.made) q none
