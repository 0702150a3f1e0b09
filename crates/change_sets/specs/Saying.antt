-- What is said of a commit, in words.
use Rattle.std.specs.Prelude.{ℕ, codes, List, ◌++◌}
use Rattle.change_sets.specs.declared.rule.Rule.{Rule}
use Rattle.change_sets.specs.declared.rule.Rule.TheVariants.{V0, V1, V2, V3, V4}
use Rattle.change_sets.specs.declared.said.Said.{Said}
use Rattle.change_sets.specs.declared.said.Said.TheVariants as said

abbrev pub rule_text : Rule → List ℕ
rule_text V0 = codes "V0"
rule_text V1 = codes "V1"
rule_text V2 = codes "V2"
rule_text V3 = codes "V3"
rule_text V4 = codes "V4"

abbrev pub conflict_text : Rule → List ℕ → List ℕ
conflict_text rule name = codes "conflict " ++ (rule_text rule ++ (codes " " ++ name))

abbrev pub said_text : Said → List ℕ
said_text said.Good = codes "good"
said_text (said.Conflict rule name) = conflict_text rule name
