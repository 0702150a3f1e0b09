use Rattle.std.proofs.Common.{◌≡◌}
use Rattle.serde_json.specs.View.{members_view}
use Rattle.table_metadata.specs.TableKeys.{all_texts}
use Rattle.table_metadata.proofs.table_keys.all_texts.Given as goal

-- the members that are left give the same answer
abbrev pub invariant-loop-value : goal.invariant-loop-value
invariant-loop-value l = all_texts (members_view l.value-iterator) ≡ all_texts (members_view l.members.entries)
