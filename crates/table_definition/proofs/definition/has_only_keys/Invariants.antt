use Rattle.std.proofs.Common.{◌≡◌}
use Rattle.serde_json.specs.View.{members_view}
use Rattle.table_definition.specs.Definition.{has_only_keys}
use Rattle.table_definition.proofs.definition.has_only_keys.Given as goal

-- the members that are left give the same answer
abbrev pub invariant-loop-name : goal.invariant-loop-name
invariant-loop-name l = has_only_keys (members_view l.name-iterator) ≡ has_only_keys (members_view l.members.entries)
