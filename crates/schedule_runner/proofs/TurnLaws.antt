-- A step speaks of the statement at hand, and leaves it only once it is answered.
use Rattle.std.proofs.Common.{◌≡◌, ◌==◌, nat_le, ℕ, Bool, true, false, if◌then◌else◌, List, [], Option, Some, None, Result, Ok, ◌⊎◌, ◌+◌, inl, inr, refl, ap, subst, ◌∙◌, slice_get}
use Rattle.plain_types.specs.Steps.{◌>>=◌, by_option}
use Rattle.sql_statements.specs.declared.statement.Source.{Source}
use Rattle.sql_statements.specs.declared.statement.Statement.{Statement}
use Rattle.store_core.specs.Files.{Files}
use Rattle.session_machine.specs.declared.answer.Answer.{Answer}
use Rattle.session_machine.specs.declared.event.Event.{Event}
use Rattle.session_machine.specs.declared.event.EventKind.{EventKind}
use Rattle.session_machine.specs.declared.event.EventKind.TheVariants as kind
use Rattle.change_sets.specs.declared.said.Said.{Said}
use Rattle.change_sets.specs.declared.said.Said.TheVariants as said
use Rattle.table_state.specs.declared.load_fault.LoadFault.{LoadFault}
use Rattle.table_state.specs.Files.{version_at}
use Rattle.table_state.proofs.CallerLemmas.{two_steps}
use Rattle.session_machine.specs.declared.place.Phase.{Phase}
use Rattle.session_machine.specs.declared.place.Phase.TheVariants as phase
use Rattle.session_machine.specs.declared.place.Place.{Place}
use Rattle.session_machine.specs.Machine.{Turned, event_at, good_turn, lost_turn, plan_turn, swap_turn, turn_of, validate_turn, won_turn}
use Rattle.session_machine.specs.Sights.{keeps_at, plan_answer, verdict_at}
use Rattle.schedule_runner.specs.Runs.{told_at, told_by, told_of_event}

-- what a step of a session at this place says, and where it goes
record Speaks (place : Place) (turned : Turned) : Type 0 where
  what : EventKind
  says : turned.stepped.event ≡ Some (event_at place what)
  goes : (turned.place.phase ≡ phase.Plan) ⊎ (turned.place.at ≡ place.at)

plan_speaks : (current : ℕ) (place : Place) (answer : Option Answer) → Speaks place (plan_turn current place answer)
plan_speaks current place None = record { what = kind.Plan current; says = refl; goes = inr refl }
plan_speaks current place (Some answer) = record { what = kind.Plan current; says = refl; goes = inl refl }

good_speaks : (current : ℕ) (place : Place) (unchanged : Bool) → Speaks place (good_turn current place unchanged)
good_speaks current place true = record { what = kind.Validate current said.Good; says = refl; goes = inl refl }
good_speaks current place false = record { what = kind.Validate current said.Good; says = refl; goes = inr refl }

validate_speaks : (current : ℕ) (place : Place) (unchanged : Bool) (verdict : Said) → Speaks place (validate_turn current place unchanged verdict)
validate_speaks current place unchanged said.Good = good_speaks current place unchanged
validate_speaks current place unchanged (said.Conflict rule name) = record { what = kind.Validate current (said.Conflict rule name); says = refl; goes = inl refl }

by_test : (place : Place) (b : Bool) (yes_turn no_turn : Turned) → Speaks place yes_turn → Speaks place no_turn → Speaks place (if b then yes_turn else no_turn)
by_test place true a b h k = h
by_test place false a b h k = k

lost_speaks : (current : ℕ) (place : Place) (retries : ℕ) → Speaks place (lost_turn current place retries)
lost_speaks current place retries =
    by_test place (nat_le retries place.lost) _ _ (record { what = kind.Swap (place.seen + 1) false; says = refl; goes = inl refl }) (record { what = kind.Swap (place.seen + 1) false; says = refl; goes = inr refl })

swap_speaks : (current : ℕ) (place : Place) (retries : ℕ) → Speaks place (swap_turn current place retries)
swap_speaks current place retries = by_test place (place.seen == current) (won_turn current place) (lost_turn current place retries) (record { what = kind.Swap (place.seen + 1) true; says = refl; goes = inl refl }) (lost_speaks current place retries)

unwrapped : (place : Place) (made turned : Turned) → ◌≡◌ {A = Result Turned LoadFault} (Ok made) (Ok turned) → Speaks place made → Speaks place turned
unwrapped place made turned e h = let same : made ≡ turned = cc in subst (Speaks place) same h

module _ (table : List ℕ) (sources : List Source) (files : Files) (current : ℕ) (place : Place) (s : Statement) where
  speaks : (p : Phase) (turned : Turned) → turn_of table sources files current place s p ≡ Ok turned → Speaks place turned
  speaks phase.Plan turned is =
      let found = two_steps (plan_answer table sources s files current) (λ answer. Ok (plan_turn current place answer)) turned is in
      unwrapped place (plan_turn current place found.0) turned found.2 (plan_speaks current place found.0)
  speaks phase.Validate turned is =
      let found = two_steps (verdict_at table sources s files place.planned current) (λ verdict. keeps_at table sources s files place.planned >>= λ keeps. Ok (validate_turn current place keeps verdict)) turned is in
      let more = two_steps (keeps_at table sources s files place.planned) (λ keeps. Ok (validate_turn current place keeps found.0)) turned found.2 in
      unwrapped place (validate_turn current place more.0 found.0) turned more.2 (validate_speaks current place more.0 found.0)
  speaks phase.Swap turned is =
      let found = two_steps (version_at table place.planned files) (λ parts. Ok (swap_turn current place parts.properties.retries)) turned is in
      unwrapped place (swap_turn current place found.0.properties.retries) turned found.2 (swap_speaks current place found.0.properties.retries)

  -- what it tells is of the statement at hand
  pub tells : (statements : List Statement) (turned : Turned) → slice_get statements place.at ≡ Some s
      → turn_of table sources files current place s place.phase ≡ Ok turned
      → told_at statements turned.stepped ≡ told_by s turned.stepped.answer
  tells statements turned at_hand is =
      let spoken = speaks place.phase turned is in
      ap (λ (event : Option Event). by_option event (told_of_event statements turned.stepped.answer) []) spoken.says
      ∙ ap (λ (found : Option Statement). by_option found (λ x. told_by x turned.stepped.answer) []) at_hand

  -- and the session stays at it, or is before its plan of the next one
  pub stays : (turned : Turned) → turn_of table sources files current place s place.phase ≡ Ok turned
      → (turned.place.phase ≡ phase.Plan) ⊎ (turned.place.at ≡ place.at)
  stays turned is = (speaks place.phase turned is).goes
