-- The lines of a run's report, without the line feeds that end them.
use Rattle.std.specs.Prelude.{ℕ, ◌+◌, codes, List, ◌++◌}
use Rattle.std.specs.Fmt.{decimal}
use Rattle.session_machine.specs.declared.event.Event.{Event}
use Rattle.session_machine.specs.declared.answer.Answer.{Answer}
use Rattle.session_machine.specs.Events.{answer_text, kind_text}
use Rattle.run_report.specs.Escapes.{escaped}

-- <session>.<number>, and what follows; the number of a statement counts from 1 in its session, and its place from 0
abbrev pub of_statement : List ℕ → ℕ → List ℕ → List ℕ
of_statement session place after = session ++ (codes "." ++ (decimal (place + 1) ++ (codes " " ++ after)))

abbrev pub event_line : List ℕ → Event → List ℕ
event_line session event = escaped (codes "event " ++ of_statement session event.statement (kind_text event.kind))

abbrev pub answer_line : List ℕ → ℕ → Answer → List ℕ
answer_line session place answer = escaped (codes "answer " ++ of_statement session place (answer_text answer))

abbrev pub branch_line : List ℕ → ℕ → List ℕ
branch_line name rows = escaped (codes "branch " ++ (name ++ (codes " " ++ decimal rows)))
