-- What a statement does at a step and how it ends, in words.
use Rattle.std.specs.Prelude.{ℕ, if◌then◌else◌, codes, length, List, ◌++◌}
use Rattle.std.specs.Fmt.{decimal}
use Rattle.change_sets.specs.Saying.{conflict_text, said_text}
use Rattle.session_machine.specs.declared.event.EventKind.{EventKind}
use Rattle.session_machine.specs.declared.event.EventKind.TheVariants as kind
use Rattle.session_machine.specs.declared.answer.Answer.{Answer}
use Rattle.session_machine.specs.declared.answer.Answer.TheVariants as answer

-- what a statement does at a step
abbrev pub kind_text : EventKind → List ℕ
kind_text (kind.Plan version) = codes "plan v" ++ decimal version
kind_text (kind.Validate version verdict) = codes "validate v" ++ (decimal version ++ (codes " " ++ said_text verdict))
kind_text (kind.Swap version won) = codes "swap v" ++ (decimal version ++ (if won then codes " won" else codes " lost"))

-- how a statement ends
abbrev pub answer_text : Answer → List ℕ
answer_text (answer.Committed version) = codes "committed v" ++ decimal version
answer_text answer.Unchanged = codes "unchanged"
answer_text (answer.Selected rows) = codes "selected " ++ decimal (length rows)
answer_text (answer.Conflict rule name) = conflict_text rule name
answer_text (answer.RetriesSpent count) = codes "retries spent " ++ decimal count
answer_text answer.Cardinality = codes "cardinality"
answer_text answer.Overflow = codes "overflow"
answer_text (answer.Null column) = codes "null " ++ column
answer_text (answer.NoBranch name) = codes "no branch " ++ name
answer_text (answer.BranchExists name) = codes "branch exists " ++ name
