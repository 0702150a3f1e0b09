use Rattle.std.proofs.Common.{◌≡◌}
use Rattle.serde_json.specs.View.{members_view}
use Rattle.table_metadata.specs.MissingKeys.{refs_stand}
use Rattle.table_metadata.proofs.missing_keys.refs_stand.Given as goal

-- the members that are left give the same answer
abbrev pub invariant-loop-reference : goal.invariant-loop-reference
invariant-loop-reference l = refs_stand (members_view l.reference-iterator) ≡ refs_stand (members_view l.refs.entries)
