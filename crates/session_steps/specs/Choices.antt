-- What the outcome of a plan, and what is found at a validation, are to the machine of a run.
use Rattle.std.specs.Prelude.{Bool, true, false, List, Option, Some, None}
use Rattle.row_values.specs.declared.schema.Column.{Column}
use Rattle.sql_statements.specs.declared.statement.Statement.{Statement}
use Rattle.sql_statements.specs.Tables.{branch_of}
use Rattle.session_machine.specs.declared.answer.Answer.{Answer}
use Rattle.session_machine.specs.declared.answer.Answer.TheVariants as answer
use Rattle.change_sets.specs.declared.said.Said.{Said}
use Rattle.change_sets.specs.declared.said.Said.TheVariants as said
use Rattle.commit_builder.specs.declared.commit.Prepared.{Prepared}
use Rattle.branch_commit.specs.declared.found.Found.{Found}
use Rattle.branch_commit.specs.declared.found.Found.TheVariants as found
use Rattle.branch_commit.specs.declared.outcome.Outcome.{Outcome}
use Rattle.branch_commit.specs.declared.outcome.Outcome.TheVariants as outcome
use Rattle.branch_commit.specs.declared.outcome.Pending.{Pending}
use Rattle.session_machine.specs.Sights.{refused_as}

-- the answer at the plan, where there is one
abbrev pub answer_of : List Column → Statement → Outcome → Option Answer
answer_of columns s outcome.NoBranch = Some (answer.NoBranch (branch_of s))
answer_of columns s (outcome.Refused why) = Some (refused_as columns why)
answer_of columns s (outcome.Ready pending) = None

abbrev pub pending_of : Outcome → Option Pending
pending_of outcome.NoBranch = None
pending_of (outcome.Refused why) = None
pending_of (outcome.Ready pending) = Some pending

abbrev pub said_of : Found → Said
said_of (found.Good prepared) = said.Good
said_of found.Unchanged = said.Good
said_of (found.Conflict rule name) = said.Conflict rule name

abbrev pub is_unchanged : Found → Bool
is_unchanged (found.Good prepared) = false
is_unchanged found.Unchanged = true
is_unchanged (found.Conflict rule name) = false

abbrev pub prepared_of : Found → Option Prepared
prepared_of (found.Good prepared) = Some prepared
prepared_of found.Unchanged = None
prepared_of (found.Conflict rule name) = None
