-- The report of a run (ours: no standard has it). It says of each step, in the order of the steps, first what the statement
-- did, then how it ended, where it did. A step that does nothing has no line: none answers a statement without an event of it,
-- by which the statement is named. Under the answer of a SELECT stand its rows, sorted by the bytes of their records, so that
-- one bag of rows has one text. A run that went to its end closes with a line for each branch.
use Rattle.std.specs.Prelude.{ℕ, Bool, true, false, codes, List, [], ◌∷◌, ◌++◌, Option, slice_get}
use Rattle.std.specs.List.{flat_map, list_any}
use Rattle.plain_types.specs.Steps.{by_option}
use Rattle.row_values.specs.declared.value.Value.{Value}
use Rattle.run_report.specs.Records.{records_of}
use Rattle.run_report.specs.Escapes.{escaped}
use Rattle.run_report.specs.Lines.{answer_line, branch_line, event_line}
use Rattle.session_machine.specs.declared.answer.Answer.{Answer}
use Rattle.session_machine.specs.declared.answer.Answer.TheVariants as answer
use Rattle.session_machine.specs.declared.event.Event.{Event}
use Rattle.session_machine.specs.declared.event.Stepped.{Stepped}

-- ---- lines and rows

-- a line with the line feed that ends it
abbrev pub ended : List ℕ → List ℕ
ended text = text ++ 10 ∷ []

-- a text as one line
abbrev pub line : List ℕ → List ℕ
line text = ended (escaped text)

-- a row's line, which has its record
abbrev pub row_line : List ℕ → List ℕ
row_line text = codes "row " ++ line text

-- the lines of rows, sorted by their records
abbrev pub row_lines : List (List Value) → List ℕ
row_lines rows = flat_map row_line (records_of rows)

-- ---- steps

-- the name of a session by its number, and the empty one beyond the names
abbrev pub name_of : List (List ℕ) → ℕ → List ℕ
name_of names session = by_option (slice_get names session) (λ name. name) []

abbrev pub lines_of_event : List ℕ → Event → List ℕ
lines_of_event session event = ended (event_line session event)

-- the rows that an answer brings
abbrev pub rows_under : Answer → List ℕ
rows_under (answer.Selected rows) = row_lines rows
rows_under other = []

abbrev pub lines_of_answer : List ℕ → ℕ → Answer → List ℕ
lines_of_answer session place answer = ended (answer_line session place answer) ++ rows_under answer

-- what a statement did, and how it ended, where it did
abbrev pub lines_of_statement : List ℕ → Event → Option Answer → List ℕ
lines_of_statement session event ending = lines_of_event session event ++ by_option ending (λ answer. lines_of_answer session event.statement answer) []

abbrev pub lines_of_step : List (List ℕ) → Stepped → List ℕ
lines_of_step names step = by_option step.event (λ event. lines_of_statement (name_of names event.session) event step.answer) []

abbrev pub lines_of_steps : List (List ℕ) → List Stepped → List ℕ
lines_of_steps names steps = flat_map (lines_of_step names) steps

-- ---- the end of a run

abbrev pub lines_of_branch : List ℕ → ℕ → List ℕ
lines_of_branch name rows = ended (branch_line name rows)

-- an answer that is none of committed, unchanged and selected
abbrev pub is_refusal : Answer → Bool
is_refusal (answer.Committed version) = false
is_refusal answer.Unchanged = false
is_refusal (answer.Selected rows) = false
is_refusal other = true

abbrev pub has_refusal : Stepped → Bool
has_refusal step = by_option step.answer is_refusal false

-- some statement of the run was refused
abbrev pub is_refused : List Stepped → Bool
is_refused steps = list_any has_refusal steps
