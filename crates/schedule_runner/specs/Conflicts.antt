-- Whether the answer of a statement tells of what another session commits (Iceberg specification, "Commit Conflict Resolution and
-- Retry").
use Rattle.std.specs.Prelude.{Bool, true, false, Option, Some, None}
use Rattle.session_machine.specs.declared.answer.Answer.{Answer}
use Rattle.session_machine.specs.declared.answer.Answer.TheVariants as answer

-- The answer, where there is one, is no conflict, and tells of no retries that are spent.
abbrev pub meets_none : Option Answer → Bool
meets_none (Some (answer.Conflict rule name)) = false
meets_none (Some (answer.RetriesSpent count)) = false
meets_none other = true

-- The answer, where there is one, is that the statement is carried out, that it changes nothing, that its branch is wanting, or
-- that plain SQL refuses it.
abbrev pub is_its_own : Option Answer → Bool
is_its_own None = true
is_its_own (Some (answer.Committed version)) = true
is_its_own (Some answer.Unchanged) = true
is_its_own (Some (answer.NoBranch name)) = true
is_its_own (Some answer.Cardinality) = true
is_its_own (Some answer.Overflow) = true
is_its_own (Some (answer.Null column)) = true
is_its_own other = false
