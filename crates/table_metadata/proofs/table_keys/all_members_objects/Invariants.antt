use Rattle.std.proofs.Common.{◌≡◌}
use Rattle.serde_json.specs.View.{members_view}
use Rattle.table_metadata.specs.TableKeys.{all_members_objects}
use Rattle.table_metadata.proofs.table_keys.all_members_objects.Given as goal

-- the members that are left give the same answer
abbrev pub invariant-loop-value : goal.invariant-loop-value
invariant-loop-value l = all_members_objects (members_view l.value-iterator) ≡ all_members_objects (members_view l.members.entries)
