-- The steps of sessions (Iceberg specification, "Optimistic Concurrency" and "Commit Conflict Resolution and Retry"). A
-- statement plans on the current version, is validated against the current one, and swaps in the next: it wins where the version
-- that it saw is still the current one, and else is validated anew, as often as the table's property says. What does not answer
-- it goes on.
use Rattle.std.specs.Prelude.{ℕ, ◌+◌, ◌==◌, nat_le, Bool, true, false, if◌then◌else◌, List, Option, Some, None, slice_get, Result, Ok}
use Rattle.plain_types.specs.Steps.{◌>>=◌, by_option}
use Rattle.sql_statements.specs.declared.statement.Source.{Source}
use Rattle.sql_statements.specs.declared.statement.Statement.{Statement}
use Rattle.store_core.specs.Files.{Files}
use Rattle.session_machine.specs.declared.answer.Answer.{Answer}
use Rattle.session_machine.specs.declared.answer.Answer.TheVariants as answer
use Rattle.session_machine.specs.declared.event.Event.{Event}
use Rattle.session_machine.specs.declared.event.EventKind.{EventKind}
use Rattle.session_machine.specs.declared.event.EventKind.TheVariants as kind
use Rattle.change_sets.specs.declared.said.Said.{Said}
use Rattle.change_sets.specs.declared.said.Said.TheVariants as said
use Rattle.session_machine.specs.declared.event.Stepped.{Stepped}
use Rattle.table_state.specs.declared.load_fault.LoadFault.{LoadFault}
use Rattle.table_state.specs.Files.{version_at}
use Rattle.session_machine.specs.declared.place.Phase.{Phase}
use Rattle.session_machine.specs.declared.place.Phase.TheVariants as phase
use Rattle.session_machine.specs.declared.place.Place.{Place}
use Rattle.session_machine.specs.Sights.{keeps_at, plan_answer, verdict_at}

-- what a step leaves: the current version, the place of the session, and what it says
pub record Turned : Type 0 where
  pub current : ℕ
  pub place : Place
  pub stepped : Stepped

-- ---- places

-- at the next statement
abbrev pub after_statement : Place → Place
after_statement place = record { session = place.session; at = place.at + 1; phase = phase.Plan; planned = 0; seen = 0; lost = 0 }

abbrev pub to_validate : ℕ → Place → Place
to_validate planned place = record place { phase = phase.Validate; planned = planned }

abbrev pub to_swap : ℕ → Place → Place
to_swap seen place = record place { phase = phase.Swap; seen = seen }

-- another swap is lost
abbrev pub after_loss : Place → Place
after_loss place = record place { phase = phase.Validate; lost = place.lost + 1 }

-- ---- steps

abbrev pub event_at : Place → EventKind → Event
event_at place kind = record { session = place.session; statement = place.at; kind = kind }

-- the step answers the statement
abbrev pub answers : ℕ → Place → EventKind → Answer → Turned
answers current place kind answer = record { current = current; place = after_statement place; stepped = record { event = Some (event_at place kind); answer = Some answer } }

-- the statement goes on to this place
abbrev pub goes_on : ℕ → Place → EventKind → Place → Turned
goes_on current place kind next = record { current = current; place = next; stepped = record { event = Some (event_at place kind); answer = None } }

-- all statements are answered
abbrev pub rests : ℕ → Place → Turned
rests current place = record { current = current; place = place; stepped = record { event = None; answer = None } }

abbrev pub plan_turn : ℕ → Place → Option Answer → Turned
plan_turn current place None = goes_on current place (kind.Plan current) (to_validate current place)
plan_turn current place (Some answer) = answers current place (kind.Plan current) answer

abbrev pub good_turn : ℕ → Place → Bool → Turned
good_turn current place unchanged =
    if unchanged then answers current place (kind.Validate current said.Good) answer.Unchanged
    else goes_on current place (kind.Validate current said.Good) (to_swap current place)

-- `unchanged` says that the statement keeps all rows of the version that it was planned on, and inserts none
abbrev pub validate_turn : ℕ → Place → Bool → Said → Turned
validate_turn current place unchanged said.Good = good_turn current place unchanged
validate_turn current place unchanged (said.Conflict rule name) = answers current place (kind.Validate current (said.Conflict rule name)) (answer.Conflict rule name)

abbrev pub won_turn : ℕ → Place → Turned
won_turn current place = answers (current + 1) place (kind.Swap (place.seen + 1) true) (answer.Committed (current + 1))

abbrev pub lost_turn : ℕ → Place → ℕ → Turned
lost_turn current place retries =
    if nat_le retries place.lost then answers current place (kind.Swap (place.seen + 1) false) (answer.RetriesSpent (place.lost + 1))
    else goes_on current place (kind.Swap (place.seen + 1) false) (after_loss place)

abbrev pub swap_turn : ℕ → Place → ℕ → Turned
swap_turn current place retries = if place.seen == current then won_turn current place else lost_turn current place retries

module _ (table : List ℕ) (sources : List Source) (files : Files) where
  -- the step of a session with this statement at hand
  abbrev pub turn_of : ℕ → Place → Statement → Phase → Result Turned LoadFault
  turn_of current place s phase.Plan = plan_answer table sources s files current >>= λ answer. Ok (plan_turn current place answer)
  turn_of current place s phase.Validate = verdict_at table sources s files place.planned current >>= λ verdict. keeps_at table sources s files place.planned >>= λ keeps. Ok (validate_turn current place keeps verdict)
  turn_of current place s phase.Swap = version_at table place.planned files >>= λ parts. Ok (swap_turn current place parts.properties.retries)

  -- of a session of these statements
  unfoldable pub turn : ℕ → Place → List Statement → Result Turned LoadFault
  turn current place statements = by_option (slice_get statements place.at) (λ s. turn_of current place s place.phase) (Ok (rests current place))
